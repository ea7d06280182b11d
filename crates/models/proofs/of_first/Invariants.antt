use Rattle.models.proofs.Numbered as objects
use Rattle.models.specs.Tables.{objects_from}
use Rattle.models.proofs.of_first.Given as goal

abbrev pub invariant-loop-i : goal.invariant-loop-i
invariant-loop-i l =
    let a = l.first.sorted.names in
    let b = l.second.sorted.names in
    objects.Turned (objects.old (objects_from b.file.now b.table.now b.count 0 b.count)) a.file.now a.table.now a.count l.at l.initial.list l.i l.past l.list
