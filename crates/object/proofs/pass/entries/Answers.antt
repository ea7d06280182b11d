-- `object::pass::entries` meets its contract: a law for each branch. The loop keeps what was noted and put of the pairs passed.
use mathlib.Core.Path.{sym, ap, ◌∙◌}
use lib.ListN.{length}
use Rattle.meaning.proofs.Lengths.{place-fits}
use Rattle.walk.proofs.Passed as passed
use Rattle.fields.proofs.FieldLoop as keeping
use Rattle.object.proofs.EntryLoop as looping
use borrow.Author.Rules.{rules}
use Rattle.object.proofs.pass.entries.Goals as goal

pub loop-e-init : goal.loop-e-init
loop-e-init c = search looping.loop-starts

pub past_key-requires : goal.past_key-requires
past_key-requires c = search keeping.still-due

pub shape_of-p-then-s-at : goal.shape_of-p-then-s-at
shape_of-p-then-s-at c = search keeping.slots-stay

pub returns-then-s-at : goal.returns-then-s-at
returns-then-s-at c = search (looping.ends-faulty, looping.all-walked)

pub shape_of-p-in-End : goal.shape_of-p-in-End
shape_of-p-in-End c = search keeping.slots-stay

pub returns-in-End : goal.returns-in-End
returns-in-End c = search (looping.ends-inside, looping.all-walked)

pub overflow_add-v : goal.overflow_add-v
overflow_add-v c = search (place-fits, keeping.value-inside)

pub slice_bounds-value-count : goal.slice_bounds-value-count
slice_bounds-value-count c = search (rules, keeping.value-inside)

pub slice_bounds-value-start : goal.slice_bounds-value-start
slice_bounds-value-start c = search (rules, keeping.value-inside)

pub slice_bounds-value-end : goal.slice_bounds-value-end
slice_bounds-value-end c = search (rules, keeping.value-inside)

pub overflow_sub-s-in-Value : goal.overflow_sub-s-in-Value
overflow_sub-s-in-Value c = search (rules, keeping.value-inside)

pub shape_of-p-then-s-v : goal.shape_of-p-then-s-v
shape_of-p-then-s-v c = c.loop-e.invariant.slots ∙ sym (ap length c.requires.0)

pub shape_of-rows-then-s-v : goal.shape_of-rows-then-s-v
shape_of-rows-then-s-v c = c.value-w.ensures.1 ∙ sym c.requires.1

pub shape_of-t-then-s-v : goal.shape_of-t-then-s-v
shape_of-t-then-s-v c = c.value-w.auto.t ∙ c.loop-e.invariant.long

pub returns-then-s-v : goal.returns-then-s-v
returns-then-s-v c = search (passed.value-fails, looping.none-walked)

pub overflow_sub-s-in-Value-2 : goal.overflow_sub-s-in-Value-2
overflow_sub-s-in-Value-2 c = search (rules, keeping.value-inside)

pub overflow_add-at : goal.overflow_add-at
overflow_add-at c = search looping.next_fits

pub overflow_sub-due : goal.overflow_sub-due
overflow_sub-due c = search (rules, keeping.two-due)

pub loop-e-smaller : goal.loop-e-smaller
loop-e-smaller c = search keeping.nearer

pub loop-e-preserved : goal.loop-e-preserved
loop-e-preserved c = search looping.loops-on
