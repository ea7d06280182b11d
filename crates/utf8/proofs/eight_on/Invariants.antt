use Prim.Native.Nat.{◌-◌}
use Rattle.utf8.proofs.AsciiWords as ascii
use Rattle.utf8.proofs.eight_on.Given as goal

abbrev pub invariant-loop-i : goal.invariant-loop-i
invariant-loop-i l = ascii.Whole l.t l.i

abbrev pub decreases-loop-i : goal.decreases-loop-i
decreases-loop-i l = 8 - l.i
