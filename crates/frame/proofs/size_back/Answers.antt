-- `frame::size_back` meets its contract: the layouts' own numbers.
use Rattle.frame.proofs.Frames as frames
use Rattle.frame.proofs.size_back.Goals as goal

pub returns-then-layout-eq1 : goal.returns-then-layout-eq1
returns-then-layout-eq1 c = search frames.old-back

pub returns : goal.returns
returns c = frames.current-back _ c.if-layout-eq1.false
