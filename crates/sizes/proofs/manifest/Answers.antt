-- `sizes::manifest` meets its contract: a law for each branch.
use Rattle.sizes.proofs.Exact as law
use Rattle.sizes.proofs.manifest.Goals as goal

pub objects-held-requires : goal.objects-held-requires
objects-held-requires c = search law.all_fit

pub overflow_add-attributes-2 : goal.overflow_add-attributes-2
overflow_add-attributes-2 c = search law.head-fits

pub overflow_add-attributes-3 : goal.overflow_add-attributes-3
overflow_add-attributes-3 c = search law.all-fits

pub returns : goal.returns
returns c = search law.manifest-sum
