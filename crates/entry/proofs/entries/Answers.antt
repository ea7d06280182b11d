-- `entry::entries` meets its contract: a law for each branch.
use native.Mathlib.Omega.{arith}
use Rattle.walk.proofs.Passed as walked
use Rattle.entry.proofs.EntryByIndex as choosing
use borrow.Author.Rules.{rules}
use Rattle.entry.proofs.entries.Goals as goal

pub loop-held-init : goal.loop-held-init
loop-held-init c = search choosing.begins

pub past_key-requires : goal.past_key-requires
past_key-requires c = search walked.still-due

pub returns-in-End : goal.returns-in-End
returns-in-End c = search choosing.ends

pub overflow_add-v : goal.overflow_add-v
overflow_add-v c = let l = c.loop-held in omega (arith, walked.value-inside l.invariant.walking c.past_key.ensures c.in-Value.is)

pub slice_bounds-skip-count : goal.slice_bounds-skip-count
slice_bounds-skip-count c = search (rules, walked.value-inside)

pub slice_bounds-skip-start : goal.slice_bounds-skip-start
slice_bounds-skip-start c = search (rules, walked.value-inside)

pub slice_bounds-skip-end : goal.slice_bounds-skip-end
slice_bounds-skip-end c = search (rules, walked.value-inside)

pub overflow_sub-s : goal.overflow_sub-s
overflow_sub-s c = search (rules, walked.value-inside)

pub returns-then-s-v : goal.returns-then-s-v
returns-then-s-v c = search choosing.unread

pub overflow_sub-s-in-Value-2 : goal.overflow_sub-s-in-Value-2
overflow_sub-s-in-Value-2 c = search (rules, walked.value-inside)

pub overflow_add-at : goal.overflow_add-at
overflow_add-at c = let l = c.loop-held in omega (arith, walked.value-inside l.invariant.walking c.past_key.ensures c.in-Value.is, c.if-s-v.false)

pub overflow_sub-due : goal.overflow_sub-due
overflow_sub-due c = search (rules, walked.two-due)

pub loop-held-smaller : goal.loop-held-smaller
loop-held-smaller c = search walked.nearer

pub loop-held-preserved : goal.loop-held-preserved
loop-held-preserved c = search choosing.goes_on
