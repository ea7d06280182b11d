use Prim.Native.Nat.{◌-◌}
use lib.ListN.{length}
use Rattle.object.proofs.EntryLoop as looping
use Rattle.object.proofs.pass.entries.Given as goal

abbrev pub invariant-loop-e : goal.invariant-loop-e
invariant-loop-e l = looping.Looping l.layout l.start l.to l.mode l.count l.s l.initial.t l.at l.due l.p l.found l.rows l.t

abbrev pub decreases-loop-e : goal.decreases-loop-e
decreases-loop-e l = length l.s - l.at
