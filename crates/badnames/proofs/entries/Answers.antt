-- `badnames::entries` meets its contract: a law for each branch.
use Rattle.badnames.proofs.KeysNoted as noting
use Rattle.walk.proofs.Passed as walked
use native.Mathlib.Omega.{arith}
use Rattle.badnames.proofs.entries.Goals as goal

pub loop-k-init : goal.loop-k-init
loop-k-init c = search noting.begins

pub past_key-requires : goal.past_key-requires
past_key-requires c = search walked.still-due

pub shape_of-size-in-End : goal.shape_of-size-in-End
shape_of-size-in-End c = search noting.same-sizes

pub returns-in-End : goal.returns-in-End
returns-in-End c = search noting.ends

pub overflow_add-v : goal.overflow_add-v
overflow_add-v c = omega (arith, walked.value-inside c.loop-k.invariant.passed c.past_key.ensures c.in-Value.is)

pub slice_bounds-skip-count : goal.slice_bounds-skip-count
slice_bounds-skip-count c = search walked.value-inside

pub slice_bounds-skip-start : goal.slice_bounds-skip-start
slice_bounds-skip-start c = search walked.value-inside

pub overflow_sub-s : goal.overflow_sub-s
overflow_sub-s c = search walked.value-inside

pub shape_of-size-then-s-v : goal.shape_of-size-then-s-v
shape_of-size-then-s-v c = search noting.same-sizes

pub returns-then-s-v : goal.returns-then-s-v
returns-then-s-v c = search noting.unread

pub noted-tally-requires : goal.noted-tally-requires
noted-tally-requires c = search noting.few-noted

pub overflow_add-at : goal.overflow_add-at
overflow_add-at c = omega (arith, walked.value-inside c.loop-k.invariant.passed c.past_key.ensures c.in-Value.is, c.if-s-v.false, c.loop-k.invariant.passed.short)

pub overflow_sub-due : goal.overflow_sub-due
overflow_sub-due c = search walked.two-due

pub loop-k-smaller : goal.loop-k-smaller
loop-k-smaller c = search walked.nearer

pub loop-k-preserved : goal.loop-k-preserved
loop-k-preserved c = search noting.goes_on
