-- `component::pass::entries` meets its contract: a law for each branch. The loop's invariant is `Noting`: what was passed, what is due, and the slots of the pairs passed.
use Rattle.meaning.proofs.Lengths.{place-fits}
use Rattle.walk.proofs.Passed as passed
use Rattle.component.proofs.Entries as entries
use borrow.Author.Rules.{rules}
use Rattle.component.proofs.pass.entries.Goals as goal

pub loop-e-init : goal.loop-e-init
loop-e-init c = search entries.noting-starts

pub past_key-requires : goal.past_key-requires
past_key-requires c = search passed.still-due

pub returns-then-s-at : goal.returns-then-s-at
returns-then-s-at c = search (entries.ends-faulty, entries.all_noted)

pub returns-in-End : goal.returns-in-End
returns-in-End c = search (entries.ends-inside, entries.all_noted)

pub overflow_add-v : goal.overflow_add-v
overflow_add-v c = search (place-fits, passed.value-inside)

pub slice_bounds-skip-count : goal.slice_bounds-skip-count
slice_bounds-skip-count c = search (rules, passed.value-inside)

pub slice_bounds-skip-start : goal.slice_bounds-skip-start
slice_bounds-skip-start c = search (rules, passed.value-inside)

pub overflow_sub-s-in-Value : goal.overflow_sub-s-in-Value
overflow_sub-s-in-Value c = search (rules, passed.value-inside)

pub returns-then-s-v : goal.returns-then-s-v
returns-then-s-v c = search (passed.value-fails, entries.none-noted)

pub overflow_sub-s-in-Value-2 : goal.overflow_sub-s-in-Value-2
overflow_sub-s-in-Value-2 c = search (rules, passed.value-inside)

pub overflow_add-at : goal.overflow_add-at
overflow_add-at c = search (place-fits, passed.next-inside)

pub overflow_sub-due : goal.overflow_sub-due
overflow_sub-due c = search (rules, passed.two-due)

pub loop-e-smaller : goal.loop-e-smaller
loop-e-smaller c = search passed.nearer

pub loop-e-preserved : goal.loop-e-preserved
loop-e-preserved c = search entries.noting-goes-on
