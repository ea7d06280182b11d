-- `sizes::last_end` meets its contract: a law for each branch.
use Rattle.sizes.proofs.Exact as law
use Rattle.sizes.proofs.last_end.Goals as goal

pub returns : goal.returns
returns c = search law.end-so
