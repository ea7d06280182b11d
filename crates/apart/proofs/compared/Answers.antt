-- `apart::compared` meets its contract: a law for each branch.
use native.Mathlib.Omega.{arith}
use Rattle.apart.proofs.Counts as counting
use Rattle.apart.proofs.compared.Goals as goal
use Rattle.apart.proofs.compared.Goals.{then-n-at+else-more-eq0, else-n-at}

pub returns-then-more-eq0 : goal.returns-then-more-eq0
returns-then-more-eq0 c = search counting.none_apart

pub overflow_add-result : goal.overflow_add-result
overflow_add-result c = omega (arith, c.differing-count.ensures.1, c.requires.sum)

pub returns : goal.returns
returns c = counting.apart-is c.args.x.now c.args.y.now c.requires c.run-at.ensures
    (λ l z. elim c.if-n-at.branch [ then-n-at+else-more-eq0 w ↦ absurd (omega arith) | else-n-at w ↦ absurd (omega arith) ]) c.differing-count.ensures.0
