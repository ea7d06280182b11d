-- `sizes::placing::aligned` meets its contract: a law for each branch.
use mathlib.Core.Path.{refl}
use Rattle.meaning.specs.Placement as placement
use Rattle.sizes.proofs.placing.aligned.Goals as goal

pub returns : goal.returns
returns c = unfold placement.aligned in refl
