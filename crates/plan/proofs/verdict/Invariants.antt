use Rattle.plan.proofs.Turns as turns
use Rattle.plan.proofs.verdict.Given as goal

abbrev pub invariant-loop-i : goal.invariant-loop-i
invariant-loop-i l = turns.Going l.plan l.rows l.n l.ceiling l.i l.end
