-- `sizes::entries::component` meets its contract: a law for each branch.
use Rattle.sizes.proofs.Sums as law
use Rattle.sizes.proofs.entries.component.Goals as goal

pub overflow_add-texts-3 : goal.overflow_add-texts-3
overflow_add-texts-3 c = search law.component-fits

pub returns : goal.returns
returns c = search law.component-sum
