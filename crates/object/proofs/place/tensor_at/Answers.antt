-- `object::place::tensor_at` meets its contract: a law for each branch.
use Rattle.object.proofs.Tensors as tensors
use Rattle.object.proofs.place.tensor_at.Goals as goal

pub returns-then-left-eq0 : goal.returns-then-left-eq0
returns-then-left-eq0 c = search tensors.no-tensor

pub returns : goal.returns
returns c = search tensors.tensor-there
