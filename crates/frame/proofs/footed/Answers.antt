-- `frame::footed` meets its contract: a law for each layout.
use Rattle.frame.proofs.Frames as frames
use Rattle.frame.proofs.footed.Goals as goal

pub returns-then-layout-eq1 : goal.returns-then-layout-eq1
returns-then-layout-eq1 c = search frames.old-footed

pub returns : goal.returns
returns c = search frames.current-footed
