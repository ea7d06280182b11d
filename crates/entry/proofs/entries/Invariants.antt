use Prim.Native.Nat.{◌-◌}
use lib.ListN.{length}
use Rattle.entry.proofs.EntryByIndex as choosing
use Rattle.entry.proofs.entries.Given as goal

abbrev pub invariant-loop-held : goal.invariant-loop-held
invariant-loop-held l = choosing.Inv l.left l.mode l.count l.s l.index l.at l.due l.n l.held

abbrev pub decreases-loop-held : goal.decreases-loop-held
decreases-loop-held l = length l.s - l.at
