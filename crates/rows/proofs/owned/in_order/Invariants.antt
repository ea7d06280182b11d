use Rattle.rows.proofs.Owners as law
use Rattle.rows.proofs.owned.in_order.Given as goal

abbrev pub invariant-loop-i : goal.invariant-loop-i
invariant-loop-i l = law.Ordered l.objects l.components l.n l.all l.i l.from l.due
