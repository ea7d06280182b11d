use Rattle.parts.proofs.Turns as turns
use Rattle.parts.specs.Parts.{parts_at}
use Rattle.parts.proofs.of_first.Given as goal

abbrev pub invariant-loop-k : goal.invariant-loop-k
invariant-loop-k l =
    turns.Firsts l.first.file.now l.first.table.now l.first.first l.first.count (parts_at l.second.names.file.now l.second.names.table.now l.second.names.first l.second.names.count)
    l.pair.i l.pair.j l.at l.initial.list l.k l.seen.at l.seen.names l.seen.dtypes l.seen.kinds l.seen.bytes l.list
