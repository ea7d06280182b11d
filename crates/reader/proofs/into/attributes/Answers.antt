-- `reader::into::attributes` meets its contract, by that of `item_at`.
use Rattle.reader.proofs.into.attributes.Goals as goal

pub returns : goal.returns
returns c = c.item_at.ensures
