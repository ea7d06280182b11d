use Rattle.apart.specs.Positions.{block}
use Rattle.apart.proofs.Counts.{Counted}
use Rattle.apart.proofs.of_block.Given as goal

abbrev pub invariant-loop-i : goal.invariant-loop-i
invariant-loop-i l = Counted l.x l.y block l.i l.count
