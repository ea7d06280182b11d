-- `names::is_copy` meets its contract. Assumes nothing.
use Rattle.names.proofs.ListedNames as listed
use Rattle.names.proofs.is_copy.Goals as goal

pub returns-then-same : goal.returns-then-same
returns-then-same c = search listed.copy-found

pub returns : goal.returns
returns c = search listed.not-said
