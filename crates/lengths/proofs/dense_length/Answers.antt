-- `lengths::dense_length` meets its contract: the number so far times the product of what is left is the whole; past 2^64 - 1 only a later 0 counts. Assumes nothing.
use Rattle.lengths.proofs.Exact as laws
use Rattle.lengths.proofs.dense_length.Goals as goal

pub loop-i-init : goal.loop-i-init
loop-i-init c = search laws.multiplied-none

pub returns-then-contains : goal.returns-then-contains
returns-then-contains c = laws.zero_left c.loop-i.invariant c.loop-i-test.true _ c.contains.ensures.value c.if-contains.true

pub returns-then-too_big : goal.returns-then-too_big
returns-then-too_big c = laws.over-already c.loop-i.invariant c.loop-i-test.true _ c.contains.ensures.value c.if-contains.false c.ranges.n.fits c.too_big.ensures c.if-too_big.true

pub overflow_mul-p : goal.overflow_mul-p
overflow_mul-p c = record { fits = laws.product-fits _ _ c.too_big.ensures c.if-too_big.false }

pub loop-i-preserved : goal.loop-i-preserved
loop-i-preserved c = search laws.multiplied-more

pub returns : goal.returns
returns c = search laws.multiplied-all
