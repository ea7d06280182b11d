use Rattle.covering.proofs.SweepTurns as sweeping
use lib.ListN.{length}
use Prim.Native.Nat.{◌-◌}
use Rattle.covering.proofs.sweep.Given as goal

abbrev pub invariant-loop-i : goal.invariant-loop-i
invariant-loop-i l = sweeping.Sweeping l.a l.sum l.reach l.i

abbrev pub decreases-loop-i : goal.decreases-loop-i
decreases-loop-i l = length l.a - l.i
