-- `pairs::of_pair` meets its contract: a law for each branch.
use Rattle.pairs.proofs.Written as written
use Rattle.pairs.proofs.of_pair.Goals as goal

pub returns-then-what-eq0 : goal.returns-then-what-eq0
returns-then-what-eq0 c =
    let m = c.components.ensures in
    let n = c.components-2.ensures in
    let p = c.itself.ensures in
    let q = c.itself-2.ensures in
    written.objects-same _ _ _ _ _ _ _ _ c.past-past.ensures (rw (m.0, m.1, m.2, m.3, n.0, n.1, n.2, n.3) at c.of_components-s.ensures) (rw (p.0, p.1, p.2, q.0, q.1, q.2) at c.of_objects-own.ensures.0)
    c.if-what-eq0.true c.capped_place.ensures

pub returns : goal.returns
returns c =
    let m = c.components.ensures in
    let n = c.components-2.ensures in
    let p = c.itself.ensures in
    let q = c.itself-2.ensures in
    written.objects-differ _ _ _ _ _ _ _ _ c.past-past.ensures (rw (m.0, m.1, m.2, m.3, n.0, n.1, n.2, n.3) at c.of_components-s.ensures) (rw (p.0, p.1, p.2, q.0, q.1, q.2) at c.of_objects-own.ensures.0)
    c.if-what-eq0.false c.entry.ensures
