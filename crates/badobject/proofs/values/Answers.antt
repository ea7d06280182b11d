-- `badobject::values` meets its contract: a law for each branch.
use Rattle.badobject.proofs.Sound as sound
use Rattle.badobject.proofs.values.Goals as goal

pub returns-in-Err : goal.returns-in-Err
returns-in-Err c = search sound.odd

pub returns-in-Ok : goal.returns-in-Ok
returns-in-Ok c = search sound.sound
