use Prim.Native.Nat.{◌-◌}
use Rattle.meaning.specs.Layouts.{layout_of}
use Rattle.root.proofs.Walks as walks
use lib.ListN.{length}
use Rattle.root.proofs.pass.entries.Given as goal

abbrev pub invariant-loop-e : goal.invariant-loop-e
invariant-loop-e l = walks.Looping l.deep (layout_of l.layout) l.start l.mode l.count l.s l.at l.due l.p l.found

abbrev pub decreases-loop-e : goal.decreases-loop-e
decreases-loop-e l = length l.s - l.at
