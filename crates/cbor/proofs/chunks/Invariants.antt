use Prim.Native.Nat.{◌-◌}
use lib.ListN.{length}
use Rattle.cbor.proofs.Returns as says
use Rattle.cbor.proofs.chunks.Given as goal

abbrev pub invariant-loop-at : goal.invariant-loop-at
invariant-loop-at l = says.Chunked l.major l.s l.at

abbrev pub decreases-loop-at : goal.decreases-loop-at
decreases-loop-at l = length l.s - l.at
