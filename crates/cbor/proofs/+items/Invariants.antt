use Rattle.cbor.proofs.Returns as says
use lib.ListN.{length}
use Prim.Native.Nat.{◌-◌}
use Rattle.cbor.proofs.+items.Given as goal

abbrev pub decreases-items : goal.decreases-items
decreases-items l = l.left

abbrev pub invariant-loop-due : goal.invariant-loop-due
invariant-loop-due l = says.Items l.mode l.count l.left l.s l.at l.due

abbrev pub decreases-loop-due : goal.decreases-loop-due
decreases-loop-due l = length l.s - l.at
