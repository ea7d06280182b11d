use Rattle.models.proofs.Numbered as objects
use Rattle.models.specs.Tables.{objects_from}
use Rattle.models.proofs.of_second.Given as goal

abbrev pub invariant-loop-j : goal.invariant-loop-j
invariant-loop-j l =
    let a = l.first.sorted.names in
    let b = l.second.sorted.names in
    objects.Turned (objects.new (objects_from a.file.now a.table.now a.count 0 a.count)) b.file.now b.table.now b.count l.at l.initial.list l.j l.past l.list
