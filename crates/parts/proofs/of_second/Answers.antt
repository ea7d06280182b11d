-- `parts::of_second` meets its contract. The loop's invariant: what is still to be written, and to be seen.
use Rattle.parts.proofs.Turns as turns
use Rattle.parts.proofs.of_second.Goals as goal

pub loop-l-preserved : goal.loop-l-preserved
loop-l-preserved c = let e = c.row.ensures in turns.one-more-second c.loop-l.invariant c.loop-l-test.true (rw (e.0, e.1, e.2) at c.of_lone-s.ensures) c.either-names.ensures

pub returns : goal.returns
returns c = search turns.all-seconds
