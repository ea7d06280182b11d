use Prim.Native.Nat.{◌-◌}
use Rattle.apart.proofs.Counts.{Counted}
use Rattle.apart.proofs.differing.Given as goal

abbrev pub invariant-loop-i : goal.invariant-loop-i
invariant-loop-i l = Counted l.x l.y l.n l.i l.count

abbrev pub decreases-loop-i : goal.decreases-loop-i
decreases-loop-i l = l.n - l.i
