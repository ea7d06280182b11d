-- `root::pass::entries` meets its contract: a law for each branch. The loop is that of every walk that keeps one field (`Looping`).
use Rattle.meaning.proofs.Lengths.{place-fits}
use Rattle.walk.proofs.Passed as passed
use Rattle.fields.proofs.FieldLoop as keeping
use Rattle.root.proofs.Walks as walks
use borrow.Author.Rules.{rules}
use Rattle.root.proofs.pass.entries.Goals as goal

pub loop-e-init : goal.loop-e-init
loop-e-init c = search walks.loop-starts

pub past_key-requires : goal.past_key-requires
past_key-requires c = search keeping.still-due

pub shape_of-p-then-s-at : goal.shape_of-p-then-s-at
shape_of-p-then-s-at c = search keeping.slots-stay

pub returns-then-s-at : goal.returns-then-s-at
returns-then-s-at c = search (walks.entries-end-faulty, walks.all_noted)

pub shape_of-p-in-End : goal.shape_of-p-in-End
shape_of-p-in-End c = search keeping.slots-stay

pub returns-in-End : goal.returns-in-End
returns-in-End c = search (walks.entries-end-inside, walks.all_noted)

pub overflow_add-v : goal.overflow_add-v
overflow_add-v c = search (place-fits, keeping.value-inside)

pub slice_bounds-value-count : goal.slice_bounds-value-count
slice_bounds-value-count c = search (rules, keeping.value-inside)

pub slice_bounds-value-start : goal.slice_bounds-value-start
slice_bounds-value-start c = search (rules, keeping.value-inside)

pub overflow_sub-s-in-Value : goal.overflow_sub-s-in-Value
overflow_sub-s-in-Value c = search (rules, keeping.value-inside)

pub shape_of-p-then-s-v : goal.shape_of-p-then-s-v
shape_of-p-then-s-v c = search keeping.slots-stay

pub returns-then-s-v : goal.returns-then-s-v
returns-then-s-v c = search (passed.value-fails, walks.none-noted)

pub overflow_sub-s-in-Value-2 : goal.overflow_sub-s-in-Value-2
overflow_sub-s-in-Value-2 c = search (rules, keeping.value-inside)

pub overflow_add-at : goal.overflow_add-at
overflow_add-at c = search (place-fits, keeping.next-inside)

pub overflow_sub-due : goal.overflow_sub-due
overflow_sub-due c = search (rules, keeping.two-due)

pub loop-e-smaller : goal.loop-e-smaller
loop-e-smaller c = search keeping.nearer

pub loop-e-preserved : goal.loop-e-preserved
loop-e-preserved c = search keeping.loops-on
