use Rattle.utf8.proofs.AsciiWords as ascii
use Rattle.utf8.proofs.low_on.Given as goal

abbrev pub invariant-loop-left : goal.invariant-loop-left
invariant-loop-left l = ascii.LowUpTo l.t l.i l.left

abbrev pub decreases-loop-left : goal.decreases-loop-left
decreases-loop-left l = l.left
