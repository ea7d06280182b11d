use Prim.Native.Nat.{◌-◌}
use lib.ListN.{length}
use Rattle.keys.specs.Odd.{slots_at}
use Rattle.keys.proofs.Parts as parts
use Rattle.keys.proofs.entries.Given as goal

abbrev pub invariant-loop-k : goal.invariant-loop-k
invariant-loop-k l = parts.Inv (slots_at l.layout l.level) l.left l.mode l.count l.s l.at l.due l.p l.key l.again

abbrev pub decreases-loop-k : goal.decreases-loop-k
decreases-loop-k l = length l.s - l.at
