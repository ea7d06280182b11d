-- `decimal::big::times` meets its contract: the invariant multiplies the limbs from the bottom. Assumes nothing.
use Rattle.decimal.proofs.Glue as glue
use Rattle.decimal.proofs.big.times.Goals as goal

pub loop-limb-init : goal.loop-limb-init
loop-limb-init c = search glue.timed-first

pub overflow_mul-t : goal.overflow_mul-t
overflow_mul-t c = search glue.product-fits

pub overflow_add-t : goal.overflow_add-t
overflow_add-t c = search glue.sum_fits

pub loop-limb-preserved : goal.loop-limb-preserved
loop-limb-preserved c = search glue.timed-next

pub returns : goal.returns
returns c = search glue.timed-done
