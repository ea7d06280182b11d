-- `explain::told` meets its contract.
use mathlib.Core.Path.{refl}
use Rattle.meaning.specs.Rows.{optional_span}
use Rattle.explained.specs.Explain.{explanation}
use Rattle.explain.proofs.told.Goals as goal

pub returns : goal.returns
returns c = unfold explanation optional_span in refl
