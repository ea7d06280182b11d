-- `table::span::item_at` meets its contract: the item was passed over.
use Rattle.table.proofs.Whole as item
use Rattle.table.proofs.span.item_at.Goals as goal

pub returns : goal.returns
returns c = search item.item-there
