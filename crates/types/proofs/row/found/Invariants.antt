use Rattle.types.proofs.Named as laws
use lib.ListN.{length}
use Prim.Native.Nat.{◌-◌}
use Rattle.types.proofs.row.found.Given as goal

abbrev pub invariant-loop-at : goal.invariant-loop-at
invariant-loop-at l = laws.Sought l.a l.b l.c l.rows l.i l.at

abbrev pub decreases-loop-at : goal.decreases-loop-at
decreases-loop-at l = length l.rows - l.at
