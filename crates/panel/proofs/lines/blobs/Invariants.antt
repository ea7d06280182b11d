use Rattle.panel.proofs.LinesInTurn as following
use Rattle.panel.proofs.lines.blobs.Given as goal

abbrev pub invariant-loop-i : goal.invariant-loop-i
invariant-loop-i l = following.Blobs l.file l.table l.summary l.n l.from l.initial.out l.at l.out l.past l.i
