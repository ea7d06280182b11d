-- `badcomponent::blob` meets its contract: a law for each branch.
use Rattle.badcomponent.proofs.Stretch as stretch
use Rattle.badcomponent.proofs.blob.Goals as goal

pub returns-in-Ok : goal.returns-in-Ok
returns-in-Ok c = search stretch.in_place

pub returns-in-Err : goal.returns-in-Err
returns-in-Err c = search stretch.out-of-place
