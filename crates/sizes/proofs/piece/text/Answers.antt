-- `sizes::piece::text` meets its contract.
use Rattle.sizes.proofs.Sums as law
use Rattle.sizes.proofs.piece.text.Goals as goal

pub overflow_add-head : goal.overflow_add-head
overflow_add-head c = search law.text-fits

pub returns : goal.returns
returns c = search law.text-whole
