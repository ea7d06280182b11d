-- `models::of_object` meets its contract: a law for each branch.
use Rattle.models.proofs.Numbered as objects
use Rattle.models.proofs.of_object.Goals as goal

pub returns-in-None : goal.returns-in-None
returns-in-None c = objects.first-only _ _ _ _ _ _ _ (rw c.args.first.now.from at c.name.ensures) c.in-None.ensures c.entry.ensures

pub returns-in-Some : goal.returns-in-Some
returns-in-Some c =
    let p = c.object.ensures in
    let q = c.object-in-Some.ensures in
    objects.in_both_lem _ _ _ _ _ _ _ (rw c.args.first.now.from at c.name.ensures) c.in-Some.ensures (rw (p.0, p.1, p.2, p.3, q.0, q.1, q.2, q.3) at c.of_pair.ensures)
