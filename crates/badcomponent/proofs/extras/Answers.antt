-- `badcomponent::extras` meets its contract: a law for each branch.
use Rattle.badcomponent.proofs.Stretch as stretch
use Rattle.badcomponent.proofs.extras.Goals as goal

pub returns-in-Err : goal.returns-in-Err
returns-in-Err c = search stretch.no-unpacked

pub returns-in-Err-encoded : goal.returns-in-Err-encoded
returns-in-Err-encoded c = search stretch.no-encoding

pub returns-in-Err-digested : goal.returns-in-Err-digested
returns-in-Err-digested c = search stretch.no-digest

pub returns-in-Ok-digested : goal.returns-in-Ok-digested
returns-in-Ok-digested c = search stretch.then-blob
