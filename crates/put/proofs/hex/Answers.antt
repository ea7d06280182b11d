-- `put::hex` meets its contract: a law for each branch. Assumes nothing.
use Rattle.meaning.specs.Listing as is
use mathlib.Core.Path.{refl}
use Rattle.put.proofs.hex.Goals as goal

pub returns : goal.returns
returns c = unfold is.hex in refl
