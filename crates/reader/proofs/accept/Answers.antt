-- `reader::accept` meets its contract: it is `accept_as` for 1.2.0.
use Rattle.reader.proofs.Frames as frames
use Rattle.reader.proofs.accept.Goals as goal

pub returns : goal.returns
returns c = search frames.accepts-current
