-- `sizes::piece::attributes` meets its contract.
use Rattle.sizes.proofs.Sums as law
use Rattle.sizes.proofs.piece.attributes.Goals as goal

pub returns-then-absent : goal.returns-then-absent
returns-then-absent c = search law.copy-absent

pub returns : goal.returns
returns c = search law.copy-present
