use Rattle.parts.proofs.Turns as turns
use Rattle.parts.specs.Parts.{parts_at}
use Rattle.parts.proofs.of_second.Given as goal

abbrev pub invariant-loop-l : goal.invariant-loop-l
invariant-loop-l l =
    turns.Seconds l.second.file.now l.second.table.now l.second.first l.second.count (parts_at l.first.names.file.now l.first.names.table.now l.first.names.first l.first.names.count)
    l.pair.i l.pair.j l.at l.initial.list l.l l.past l.names l.list
