-- `utf8::low_on` meets its contract. The loop's invariant: what is left is inside, and the rest from i on decides. Assumes nothing.
use Rattle.utf8.proofs.AsciiWords as ascii
use Rattle.utf8.proofs.low_on.Goals as goal

pub loop-left-init : goal.loop-left-init
loop-left-init c = search ascii.low-none

pub loop-left-preserved : goal.loop-left-preserved
loop-left-preserved c = search ascii.low-more
