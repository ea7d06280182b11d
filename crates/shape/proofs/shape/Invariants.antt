use Rattle.shape.proofs.Elements as elements
use Prim.Native.Nat.{◌-◌}
use lib.ListN.{length}
use Rattle.shape.proofs.shape.Given as goal

abbrev pub invariant-loop-n : goal.invariant-loop-n
invariant-loop-n l = elements.Passing l.left l.mode l.count l.s l.initial.dims l.dims l.at l.rank

abbrev pub decreases-loop-n : goal.decreases-loop-n
decreases-loop-n l = length l.s - l.at
