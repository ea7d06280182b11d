-- `differing::Object::shape` meets its contract.
use Rattle.differing.proofs.Columns as columns
use Rattle.differing.proofs.Object.shape.Goals as goal

pub returns : goal.returns
returns c = search columns.shape_is
