-- `names::leading` meets its contract: the digests or the order answer. Assumes nothing.
use Rattle.names.proofs.ListedNames as listed
use Rattle.names.proofs.leading.Goals as goal

pub returns-then-k-n : goal.returns-then-k-n
returns-then-k-n c = search listed.all-lead

pub returns-then-is_copy : goal.returns-then-is_copy
returns-then-is_copy c = search listed.some-lead
