-- `keys::odd_key` meets its contract: a law for each branch.
use Rattle.keys.proofs.Parts as parts
use Rattle.keys.proofs.odd_key.Goals as goal

pub returns-then-slot-known : goal.returns-then-slot-known
returns-then-slot-known c = search parts.is_odd

pub returns : goal.returns
returns c = search parts.not-odd
