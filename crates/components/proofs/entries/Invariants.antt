use Prim.Native.Nat.{◌-◌}
use Rattle.components.proofs.EntryLoop as looping
use Rattle.table.specs.Given.{offered}
use lib.ListN.{length}
use Rattle.components.proofs.entries.Given as goal

abbrev pub invariant-loop-e : goal.invariant-loop-e
invariant-loop-e l = looping.Looping (offered l.layout l.format l.code) l.start l.to l.mode l.count l.s l.initial.t l.at l.due l.names l.left l.size l.first l.rows l.next l.t

abbrev pub decreases-loop-e : goal.decreases-loop-e
decreases-loop-e l = length l.s - l.at
