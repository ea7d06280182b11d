-- `keys::copy` meets its contract: a law for each branch.
use Rattle.keys.proofs.Parts as parts
use Rattle.keys.proofs.copy.Goals as goal

pub returns-then-held-eq0 : goal.returns-then-held-eq0
returns-then-held-eq0 c = search parts.first-copy

pub returns-then-slot-known : goal.returns-then-slot-known
returns-then-slot-known c = search parts.a_copy

pub returns : goal.returns
returns c = search parts.unknown
