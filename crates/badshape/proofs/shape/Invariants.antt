use Rattle.badshape.proofs.Elements.{Passing}
use lib.ListN.{length}
use Prim.Native.Nat.{◌-◌}
use Rattle.badshape.proofs.shape.Given as goal

abbrev pub invariant-loop-mode : goal.invariant-loop-mode
invariant-loop-mode l = Passing l.mode l.count l.s l.at l.rank

abbrev pub decreases-loop-mode : goal.decreases-loop-mode
decreases-loop-mode l = length l.s - l.at
