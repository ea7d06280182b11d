-- `decimal::big::tenth` meets its contract: the invariant divides the limbs from the top. Assumes nothing.
use Rattle.decimal.proofs.Glue as glue
use Rattle.decimal.proofs.big.tenth.Goals as goal

pub loop-i-init : goal.loop-i-init
loop-i-init c = search glue.divided-first

pub overflow_add-t : goal.overflow_add-t
overflow_add-t c = search glue.digit-fits

pub loop-i-preserved : goal.loop-i-preserved
loop-i-preserved c = search glue.divided-next

pub returns : goal.returns
returns c = search glue.divided-done
