use Rattle.panel.proofs.LinesInTurn as following
use Rattle.panel.proofs.lines.objects_of.Given as goal

abbrev pub invariant-loop-i : goal.invariant-loop-i
invariant-loop-i l = following.Objects l.file l.table l.summary l.n l.first l.initial.out l.at l.out l.past l.i l.from
