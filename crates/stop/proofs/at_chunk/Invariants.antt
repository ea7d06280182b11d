use Rattle.stop.proofs.Turns as turns
use Rattle.meaning.specs.Read.{to_break, chunk}
use Prim.Native.Nat.{◌-◌}
use lib.ListN.{length}
use Rattle.stop.proofs.at_chunk.Given as goal

abbrev pub invariant-loop-at : goal.invariant-loop-at
invariant-loop-at l = turns.Inv (to_break (chunk l.major)) (chunk l.major) l.s l.at

abbrev pub decreases-loop-at : goal.decreases-loop-at
decreases-loop-at l = length l.s - l.at
