-- `sizes::piece::optional_text` meets its contract: a law for each branch.
use Rattle.sizes.proofs.Sums as law
use Rattle.sizes.proofs.piece.optional_text.Goals as goal

pub returns-then-absent : goal.returns-then-absent
returns-then-absent c = search law.text-absent

pub returns : goal.returns
returns c = search law.text-present
