use Prim.Native.Nat.{◌-◌}
use lib.ListN.{length}
use Rattle.window.proofs.Sums as summing
use Rattle.window.proofs.each.Given as goal

abbrev pub invariant-loop-sum : goal.invariant-loop-sum
invariant-loop-sum l = summing.Looping l.layout l.start l.end l.mode l.count l.fn.have.place l.fn.have.total l.from l.s l.initial.names l.at l.due l.sum.place l.sum.total l.next l.names l.rows l.t

abbrev pub decreases-loop-sum : goal.decreases-loop-sum
decreases-loop-sum l = length l.s - l.at
