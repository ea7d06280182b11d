-- `badcomponent::values` meets its contract: a law for each branch.
use Rattle.badcomponent.proofs.Storage as storage
use Rattle.badcomponent.proofs.values.Goals as goal

pub returns-in-Err : goal.returns-in-Err
returns-in-Err c = search storage.no-dtype

pub returns-in-Err-typed : goal.returns-in-Err-typed
returns-in-Err-typed c = search storage.no-type

pub returns-in-Ok-typed : goal.returns-in-Ok-typed
returns-in-Ok-typed c = search storage.then-extent
