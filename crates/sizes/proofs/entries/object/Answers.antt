-- `sizes::entries::object` meets its contract.
use Rattle.sizes.proofs.Sums as law
use Rattle.sizes.proofs.entries.object.Goals as goal

pub returns : goal.returns
returns c = search law.object-sum
