-- `decimal::digits::nine` meets its contract: the invariant says what was cut off. Assumes nothing.
use Rattle.decimal.proofs.DigitsCut as cut
use Rattle.decimal.proofs.digits.nine.Goals as goal

pub fives-requires : goal.fives-requires
fives-requires c = search cut.first-number

pub twos-requires : goal.twos-requires
twos-requires c = search cut.fives-low

pub loop-a-init : goal.loop-a-init
loop-a-init c = search cut.cut-begins

pub overflow_add-place : goal.overflow_add-place
overflow_add-place c = search cut.place-fits

pub loop-a-smaller : goal.loop-a-smaller
loop-a-smaller c = search cut.tenth-less

pub loop-a-preserved : goal.loop-a-preserved
loop-a-preserved c = search cut.cut-next

pub nearest-d-requires : goal.nearest-d-requires
nearest-d-requires c = search cut.cut_small

pub overflow_add-result : goal.overflow_add-result
overflow_add-result c = search cut.place-fits

pub returns-then-d-eq1000000000 : goal.returns-then-d-eq1000000000
returns-then-d-eq1000000000 c = search cut.found_up

pub returns : goal.returns
returns c = search cut.found_as
