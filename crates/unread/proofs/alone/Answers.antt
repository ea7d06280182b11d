-- `unread::alone` meets its contract: a law for each branch.
use mathlib.Core.Path.{refl}
use Rattle.meaning.specs.Rows.{optional_span}
use Rattle.explained.specs.Explain.{explanation}
use Rattle.unread.proofs.alone.Goals as goal

pub returns : goal.returns
returns c = unfold explanation optional_span in refl
