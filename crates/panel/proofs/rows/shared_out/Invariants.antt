use Rattle.panel.proofs.Sound as rows
use Rattle.panel.proofs.rows.shared_out.Given as goal

abbrev pub invariant-loop-i : goal.invariant-loop-i
invariant-loop-i l = rows.Sharing l.table l.n l.components l.i l.due
