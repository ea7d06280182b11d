use Rattle.apart.specs.Positions.{Passed}
use Rattle.apart.proofs.run.Given as goal

abbrev pub invariant-loop-i : goal.invariant-loop-i
invariant-loop-i l = Passed l.x l.y l.n l.i
