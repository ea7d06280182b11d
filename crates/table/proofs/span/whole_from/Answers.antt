-- `table::span::whole_from` meets its contract, by that of `whole`. Assumes nothing.
use Rattle.table.proofs.Whole as item
use Rattle.table.proofs.span.whole_from.Goals as goal

pub returns : goal.returns
returns c = item.from-whole _ _ _ _ c.whole.ensures
