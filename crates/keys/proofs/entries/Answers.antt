-- `keys::entries` meets its contract: a law for each branch.
use native.Mathlib.Omega.{arith}
use Rattle.walk.proofs.Passed as walked
use Rattle.keys.proofs.Parts as parts
use borrow.Author.Rules.{rules}
use Rattle.keys.proofs.entries.Goals as goal

pub loop-k-init : goal.loop-k-init
loop-k-init c = search parts.begins

pub past_key-requires : goal.past_key-requires
past_key-requires c = search walked.still-due

pub shape_of-p-in-End : goal.shape_of-p-in-End
shape_of-p-in-End c = search parts.as_long

pub returns-in-End : goal.returns-in-End
returns-in-End c = search parts.ends

pub overflow_add-v : goal.overflow_add-v
overflow_add-v c = let l = c.loop-k in omega (arith, walked.value-inside l.invariant.walking c.past_key.ensures c.in-Value.is)

pub slice_bounds-skip-count : goal.slice_bounds-skip-count
slice_bounds-skip-count c = search (rules, walked.value-inside)

pub slice_bounds-skip-start : goal.slice_bounds-skip-start
slice_bounds-skip-start c = search (rules, walked.value-inside)

pub slice_bounds-skip-end : goal.slice_bounds-skip-end
slice_bounds-skip-end c = search (rules, walked.value-inside)

pub overflow_sub-s : goal.overflow_sub-s
overflow_sub-s c = search (rules, walked.value-inside)

pub shape_of-p-then-s-v : goal.shape_of-p-then-s-v
shape_of-p-then-s-v c = search parts.as_long

pub returns-then-s-v : goal.returns-then-s-v
returns-then-s-v c = search parts.unread

pub offset_bounds-p-j : goal.offset_bounds-p-j
offset_bounds-p-j c = omega (arith, c.slot-j.ensures.0, parts.slot-low _ _ _ c.known-n.ensures.1 c.slot-j.ensures.0, c.known-n.ensures.0)

pub bounds-p-j : goal.bounds-p-j
bounds-p-j c = search parts.slot-inside

pub overflow_sub-s-in-Value-3 : goal.overflow_sub-s-in-Value-3
overflow_sub-s-in-Value-3 c = search (rules, walked.value-inside)

pub mark-requires : goal.mark-requires
mark-requires c = search (parts.all_placed, parts.slot-low)

pub overflow_add-at : goal.overflow_add-at
overflow_add-at c = let l = c.loop-k in omega (arith, walked.value-inside l.invariant.walking c.past_key.ensures c.in-Value.is, c.if-s-v.false, l.invariant.walking.short)

pub overflow_sub-due : goal.overflow_sub-due
overflow_sub-due c = search (rules, walked.two-due)

pub loop-k-smaller : goal.loop-k-smaller
loop-k-smaller c = search walked.nearer

pub loop-k-preserved : goal.loop-k-preserved
loop-k-preserved c = search parts.goes_on
