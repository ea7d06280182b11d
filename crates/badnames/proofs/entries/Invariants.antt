use Prim.Native.Nat.{◌-◌}
use Rattle.badnames.proofs.KeysNoted as noting
use lib.ListN.{length}
use Rattle.badnames.proofs.entries.Given as goal

abbrev pub invariant-loop-k : goal.invariant-loop-k
invariant-loop-k l = noting.Inv l.tested l.levels l.mode l.count l.s l.initial.left l.at l.due l.left l.size l.tally l.key l.text

abbrev pub decreases-loop-k : goal.decreases-loop-k
decreases-loop-k l = length l.s - l.at
