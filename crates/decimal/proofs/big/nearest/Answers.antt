-- `decimal::big::nearest` meets its contract: a law for each branch. Assumes nothing.
use Rattle.decimal.proofs.Units as units
use Rattle.decimal.proofs.big.nearest.Goals as goal

pub returns-then-part-lt2147483648 : goal.returns-then-part-lt2147483648
returns-then-part-lt2147483648 c = search units.near_down

pub overflow_add-a : goal.overflow_add-a
overflow_add-a c = search units.two-fit

pub overflow_add-a-then-part-eq2147483648 : goal.overflow_add-a-then-part-eq2147483648
overflow_add-a-then-part-eq2147483648 c = search units.two-and-left-fit

pub overflow_add-result : goal.overflow_add-result
overflow_add-result c = search units.even-fits

pub returns-then-a-left-eq0 : goal.returns-then-a-left-eq0
returns-then-a-left-eq0 c = search units.near_even

pub overflow_add-result-then-part-eq2147483648 : goal.overflow_add-result-then-part-eq2147483648
overflow_add-result-then-part-eq2147483648 c = search units.up_fits

pub returns-then-part-eq2147483648 : goal.returns-then-part-eq2147483648
returns-then-part-eq2147483648 c = search units.near-above

pub overflow_add-result-2 : goal.overflow_add-result-2
overflow_add-result-2 c = search units.up_fits

pub returns : goal.returns
returns c = search units.near-over
