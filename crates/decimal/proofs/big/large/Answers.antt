-- `decimal::big::large` meets its contract: the invariant says which limbs are 0. Assumes nothing.
use Rattle.decimal.proofs.Units as units
use Rattle.decimal.proofs.big.large.Goals as goal

pub loop-i-init : goal.loop-i-init
loop-i-init c = search units.looked-first

pub returns-then-a-i-ne0 : goal.returns-then-a-i-ne0
returns-then-a-i-ne0 c = search units.looked-met

pub loop-i-preserved : goal.loop-i-preserved
loop-i-preserved c = search units.looked-next

pub returns : goal.returns
returns c = search units.looked-done
