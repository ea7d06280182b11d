-- `differing::of_parts` meets its contract.
use Rattle.differing.proofs.Columns as columns
use Rattle.differing.proofs.of_parts.Goals as goal

pub returns : goal.returns
returns c = search columns.differences-are
