use Prim.Native.Nat.{◌-◌}
use lib.ListN.{length}
use Rattle.objects.proofs.EntryLoop as looping
use Rattle.objects.proofs.entries.Given as goal

abbrev pub invariant-loop-e : goal.invariant-loop-e
invariant-loop-e l = looping.Looping l.deep l.layout l.start l.end l.from l.mode l.count l.s l.initial.t l.at l.due l.names l.initial.left l.left l.size l.first l.rows l.row l.next l.t

abbrev pub decreases-loop-e : goal.decreases-loop-e
decreases-loop-e l = length l.s - l.at
