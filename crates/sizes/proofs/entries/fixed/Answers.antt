-- `sizes::entries::fixed` meets its contract: a law for each branch.
use Rattle.sizes.proofs.Sums as law
use Rattle.sizes.proofs.entries.fixed.Goals as goal

pub overflow_add-result-2 : goal.overflow_add-result-2
overflow_add-result-2 c = search law.offset-fits

pub overflow_add-result-3 : goal.overflow_add-result-3
overflow_add-result-3 c = search law.fixed-fits

pub returns : goal.returns
returns c = (search law.fixed-sum, search law.fixed-small)
