use Prim.Native.Nat.{◌-◌}
use lib.ListN.{length}
use Rattle.listing.proofs.ReadInto as filling
use Rattle.listing.proofs.fill.Given as goal

abbrev pub invariant-loop-at : goal.invariant-loop-at
invariant-loop-at l = filling.Filled l.initial.space l.space l.at

abbrev pub decreases-loop-at : goal.decreases-loop-at
decreases-loop-at l = length l.space - l.at
