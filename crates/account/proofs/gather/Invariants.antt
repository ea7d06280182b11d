use Rattle.account.proofs.Ranges.{Gathering}
use Rattle.account.proofs.gather.Given as goal

abbrev pub invariant-loop-i : goal.invariant-loop-i
invariant-loop-i l = Gathering l.initial.table l.first l.n l.most l.table l.i
