-- `reader::accept_as` meets its contract: what was judged, in numbers.
use Rattle.reader.proofs.Frames as frames
use Rattle.reader.proofs.accept_as.Goals as goal

pub returns-in-Err : goal.returns-in-Err
returns-in-Err c = search frames.accept-refuses

pub returns-in-Ok : goal.returns-in-Ok
returns-in-Ok c = search frames.accept-accepts
