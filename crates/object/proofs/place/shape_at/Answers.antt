-- `object::place::shape_at` meets its contract: a law for each branch.
use Rattle.object.proofs.Dimensions as dims
use Rattle.object.proofs.place.shape_at.Goals as goal

pub returns : goal.returns
returns c = search dims.shape-there
