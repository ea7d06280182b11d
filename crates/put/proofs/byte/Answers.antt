-- `put::byte` meets its contract: a law for each branch. Assumes nothing.
use Rattle.put.proofs.PiecesInTurn as writing
use borrow.Author.Rules.{rules}
use Rattle.put.proofs.byte.Goals as goal

pub returns-then-at-out : goal.returns-then-at-out
returns-then-at-out c = writing.one_in _ _ _ (search rules) c.if-at-out.true

pub returns : goal.returns
returns c = writing.one-past _ _ _ (search rules) c.if-at-out.false c.saturating_add.ensures c.capped_place.ensures
