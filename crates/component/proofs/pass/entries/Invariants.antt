use lib.ListN.{length}
use Prim.Native.Nat.{◌-◌}
use Rattle.component.proofs.Entries as entries
use Rattle.component.proofs.pass.entries.Given as goal

abbrev pub invariant-loop-e : goal.invariant-loop-e
invariant-loop-e l = entries.Noting l.layout l.mode l.count l.s l.initial.p l.at l.due l.p

abbrev pub decreases-loop-e : goal.decreases-loop-e
decreases-loop-e l = length l.s - l.at
