-- `types::row::row_is` meets its contract: the three tests, in order. Assumes nothing.
use Rattle.types.proofs.Named as laws
use borrow.Author.Tests.{eq-eqb, ne_eqb}
use Rattle.types.proofs.row.row_is.Goals as goal

pub returns-then-rows-at : goal.returns-then-rows-at
returns-then-rows-at c = simp (ne_eqb _ _ c.if-rows-at.true)

pub returns-then-rows-at-2 : goal.returns-then-rows-at-2
returns-then-rows-at-2 c = simp (eq-eqb _ _ c.if-rows-at.false, ne_eqb _ _ c.if-rows-at-2.true)

pub returns : goal.returns
returns c = laws.third _ _ _ (eq-eqb _ _ c.if-rows-at.false) (eq-eqb _ _ c.if-rows-at-2.false)
