-- `components::entries` meets its contract: a law for each branch. The loop keeps what was noted and put of the pairs passed.
use Rattle.meaning.proofs.Lengths.{place-fits}
use Rattle.walk.proofs.Passed as walked
use Rattle.components.proofs.EntryLoop as looping
use native.Mathlib.Omega.{arith}
use borrow.Author.Rules.{rules}
use Rattle.components.proofs.entries.Goals as goal

pub loop-e-init : goal.loop-e-init
loop-e-init c = search looping.loop-starts

pub past_key-requires : goal.past_key-requires
past_key-requires c = search walked.still-due

pub returns-then-s-at : goal.returns-then-s-at
returns-then-s-at c = search (looping.ends-faulty, looping.all-kept, looping.all-rowed)

pub returns-in-End : goal.returns-in-End
returns-in-End c = search (looping.ends-inside, looping.all-kept, looping.all-rowed)

pub overflow_add-v : goal.overflow_add-v
overflow_add-v c = search (place-fits, walked.value-inside)

pub slice_bounds-component-count : goal.slice_bounds-component-count
slice_bounds-component-count c = search (rules, walked.value-inside)

pub slice_bounds-component-start : goal.slice_bounds-component-start
slice_bounds-component-start c = search (rules, walked.value-inside)

pub overflow_sub-s-in-Value : goal.overflow_sub-s-in-Value
overflow_sub-s-in-Value c = search (rules, walked.value-inside)

pub returns-then-s-v : goal.returns-then-s-v
returns-then-s-v c = search (walked.value-fails, looping.no-pairs-kept, looping.no-pairs-rowed)

pub slice_bounds-keep-count-in-Value : goal.slice_bounds-keep-count-in-Value
slice_bounds-keep-count-in-Value c = search (rules, walked.value-inside)

pub slice_bounds-keep-start-in-Value : goal.slice_bounds-keep-start-in-Value
slice_bounds-keep-start-in-Value c = search (rules, walked.value-inside)

pub slice_bounds-put_row-count-in-Value : goal.slice_bounds-put_row-count-in-Value
slice_bounds-put_row-count-in-Value c = search (rules, walked.value-inside)

pub slice_bounds-put_row-start-in-Value : goal.slice_bounds-put_row-start-in-Value
slice_bounds-put_row-start-in-Value c = search (rules, walked.value-inside)

pub slice_bounds-note-count : goal.slice_bounds-note-count
slice_bounds-note-count c = omega (arith, looping.at-inside c.loop-e.invariant)

pub slice_bounds-note-start : goal.slice_bounds-note-start
slice_bounds-note-start c = omega (arith, looping.at-inside c.loop-e.invariant)

pub note-names-requires : goal.note-names-requires
note-names-requires c = omega (arith, looping.few-names c.loop-e.invariant)

pub overflow_add-at : goal.overflow_add-at
overflow_add-at c = looping.next_fits c.loop-e.invariant c.past_key.ensures c.in-Value.is c.component-w.ensures.0 c.if-s-v.false

pub overflow_sub-due : goal.overflow_sub-due
overflow_sub-due c = omega (arith, walked.two-due c.loop-e.invariant.walking c.past_key.ensures c.in-Value.is c.component-w.ensures.0)

pub loop-e-smaller : goal.loop-e-smaller
loop-e-smaller c = walked.nearer c.loop-e.invariant.walking c.past_key.ensures c.in-Value.is c.component-w.ensures.0 c.if-s-v.false

pub loop-e-preserved : goal.loop-e-preserved
loop-e-preserved c = looping.loops-on c.loop-e.invariant c.past_key.ensures c.in-Value.is c.component-w.ensures.0 c.if-s-v.false c.component-w.result.verdict c.component-w.ensures.1
    c.keep-first.ensures.0 c.keep-first.ensures.1 c.put_row.ensures c.put_row.auto.t c.next_row-next.ensures c.note-names.ensures
