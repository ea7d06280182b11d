-- `objects::entries` meets its contract: a law for each branch. The loop keeps what was noted and put of the pairs passed.
use Rattle.meaning.proofs.Lengths.{place-fits}
use Rattle.walk.proofs.Passed as walked
use Rattle.objects.proofs.EntryLoop as looping
use borrow.Author.Rules.{rules}
use Rattle.objects.proofs.entries.Goals as goal

pub loop-e-init : goal.loop-e-init
loop-e-init c = search looping.loop-starts

pub past_key-requires : goal.past_key-requires
past_key-requires c = search walked.still-due

pub returns-then-s-at : goal.returns-then-s-at
returns-then-s-at c = search (looping.ends-faulty, looping.all-kept, looping.all_laid)

pub returns-in-End : goal.returns-in-End
returns-in-End c = search (looping.ends-inside, looping.all-kept, looping.all_laid)

pub overflow_add-v : goal.overflow_add-v
overflow_add-v c = search (place-fits, walked.value-inside)

pub slice_bounds-one-count : goal.slice_bounds-one-count
slice_bounds-one-count c = search (rules, walked.value-inside)

pub slice_bounds-one-start : goal.slice_bounds-one-start
slice_bounds-one-start c = search (rules, walked.value-inside)

pub slice_bounds-one-count-in-Value : goal.slice_bounds-one-count-in-Value
slice_bounds-one-count-in-Value c = search (rules, walked.value-inside)

pub slice_bounds-one-start-in-Value : goal.slice_bounds-one-start-in-Value
slice_bounds-one-start-in-Value c = search (rules, walked.value-inside)

pub overflow_sub-s-in-Value : goal.overflow_sub-s-in-Value
overflow_sub-s-in-Value c = search (rules, walked.value-inside)

pub shape_of-t-then-s-v : goal.shape_of-t-then-s-v
shape_of-t-then-s-v c = search looping.still-long

pub returns-then-s-v : goal.returns-then-s-v
returns-then-s-v c = (search looping.value-fails, search, search looping.none-kept-there, search looping.none-laid-there)

pub slice_bounds-note-count : goal.slice_bounds-note-count
slice_bounds-note-count c = search (rules, walked.value-inside)

pub slice_bounds-note-start : goal.slice_bounds-note-start
slice_bounds-note-start c = search (rules, walked.value-inside)

pub note-names-requires : goal.note-names-requires
note-names-requires c = looping.count_small c.loop-e.invariant

pub overflow_add-at : goal.overflow_add-at
overflow_add-at c = looping.turn-fits c.loop-e.invariant c.past_key.ensures c.in-Value.is c.one-w.ensures.0 c.if-s-v.false

pub overflow_sub-due : goal.overflow_sub-due
overflow_sub-due c = walked.two-due c.loop-e.invariant.walking c.past_key.ensures c.in-Value.is c.one-w.ensures.0

pub loop-e-smaller : goal.loop-e-smaller
loop-e-smaller c = looping.turn-less c.loop-e.invariant c.past_key.ensures c.in-Value.is c.one-w.ensures.0 c.if-s-v.false

pub loop-e-preserved : goal.loop-e-preserved
loop-e-preserved c = looping.loops-on c.loop-e.invariant c.past_key.ensures c.in-Value.is c.one-w.ensures.0 c.if-s-v.false c.one-w.result.verdict c.one-w.ensures.1 c.one-w.ensures.2
    c.one-w.auto.t c.one-w.auto.rows c.keep-first.ensures c.next_row-row.ensures c.beyond-next.ensures c.note-names.ensures
