-- `parts::of_first` meets its contract. The loop's invariant: what is still to be written, and to be seen.
use mathlib.Core.Path.{refl}
use Rattle.parts.proofs.Turns as turns
use Rattle.parts.proofs.of_first.Goals as goal

pub loop-k-preserved : goal.loop-k-preserved
loop-k-preserved c =
    let e = c.row.ensures in
    rw c.then-seen.ensures (turns.one-more-first c.loop-k.invariant c.loop-k-test.true (rw (e.0, e.1, e.2) at c.of_part-s.ensures) refl refl refl refl)

pub returns : goal.returns
returns c = search turns.all_firsts
