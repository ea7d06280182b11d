-- `models::of_tables` meets its contract: the first's entries, then the second's.
use Rattle.models.proofs.Numbered as objects
use Rattle.models.specs.Tables.{objects_from}
use Rattle.models.proofs.of_tables.Goals as goal

pub returns : goal.returns
returns c =
    let p = c.model-ours.ensures in
    let q = c.model-theirs.ensures in
    let a = c.args.first in
    let b = c.args.second in
    objects.both-written (objects_from a.file.now a.table.now a.count 0 a.count) (objects_from b.file.now b.table.now b.count 0 b.count) (rw (p.0, p.1, p.2, q.0, q.1, q.2) at c.of_first-past.ensures) (rw (p.0, p.1, p.2, q.0, q.1, q.2) at c.of_second.ensures)
