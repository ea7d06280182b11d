-- `covering::sweep` meets its contract: the invariant says what the ranges from i on add. Assumes nothing.
use Rattle.covering.proofs.SweepTurns as sweeping
use Rattle.covering.proofs.sweep.Goals as goal

pub loop-i-init : goal.loop-i-init
loop-i-init c = search sweeping.sweeping-first

pub overflow_add-past : goal.overflow_add-past
overflow_add-past c = search sweeping.past_fits

pub offset_bounds-a-i : goal.offset_bounds-a-i
offset_bounds-a-i c = search sweeping.past-scaled-fits

pub bounds-a-i : goal.bounds-a-i
bounds-a-i c = search sweeping.past-there

pub overflow_add-i : goal.overflow_add-i
overflow_add-i c = search sweeping.next_fits

pub overflow_add-sum : goal.overflow_add-sum
overflow_add-sum c = let e = sweeping.from-most _ _ c.max-begins.ensures in search sweeping.sum_fits

pub loop-i-preserved-then-begins-past : goal.loop-i-preserved-then-begins-past
loop-i-preserved-then-begins-past c = let e = sweeping.from-most _ _ c.max-begins.ensures in search sweeping.sweeping-more

pub loop-i-preserved : goal.loop-i-preserved
loop-i-preserved c = sweeping.sweeping-none c.requires.0 c.loop-i.invariant c.loop-i-test.true _ (sweeping.from-most _ _ c.max-begins.ensures) c.if-begins-past.false

pub returns : goal.returns
returns c = search sweeping.sweeping-done
