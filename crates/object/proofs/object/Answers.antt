-- `object::object` meets its contract: a law for each branch.
use Rattle.object.proofs.WholeObject as whole
use Rattle.object.proofs.Walks as walks
use Rattle.meaning.proofs.Lengths.{place-fits}
use Rattle.walk.proofs.Opens as opens
use native.Mathlib.Omega.{arith}
use mathlib.Core.Path.{refl, ◌∙◌}
use borrow.Author.Rules.{rules}
use Rattle.object.proofs.object.Goals as goal

pub slice_bounds-entries-count : goal.slice_bounds-entries-count
slice_bounds-entries-count c = search opens.size-inside

pub slice_bounds-entries-start : goal.slice_bounds-entries-start
slice_bounds-entries-start c = search opens.size-inside

pub entries-w-requires : goal.entries-w-requires
entries-w-requires c = search opens.modes

pub slice_bounds-verdict-count : goal.slice_bounds-verdict-count
slice_bounds-verdict-count c = search opens.size-inside

pub slice_bounds-verdict-start : goal.slice_bounds-verdict-start
slice_bounds-verdict-start c = search opens.size-inside

pub verdict-v-requires : goal.verdict-v-requires
verdict-v-requires c = (search rules, refl, search rules)

pub slice_bounds-own-count-in-Some : goal.slice_bounds-own-count-in-Some
slice_bounds-own-count-in-Some c = search opens.size-inside

pub slice_bounds-own-start-in-Some : goal.slice_bounds-own-start-in-Some
slice_bounds-own-start-in-Some c = search opens.size-inside

pub overflow_sub-c : goal.overflow_sub-c
overflow_sub-c c = opens.size-inside c.args.c.now _ c.map.ensures _ c.in-Some.is

pub shape_of-rows-then-c-size : goal.shape_of-rows-then-c-size
shape_of-rows-then-c-size c = c.verdict-v.auto.rows ∙ c.entries-w.auto.rows

pub shape_of-t-then-c-size : goal.shape_of-t-then-c-size
shape_of-t-then-c-size c = c.own-told.auto.t ∙ c.verdict-v.auto.t ∙ c.entries-w.auto.t

pub returns-then-c-size : goal.returns-then-c-size
returns-then-c-size c = let a = c.args in whole.whole-faulty a.layout a.s.now a.c.now a.start a.to a.t.now (omega (arith, c.type_inv)) _ c.map.ensures _ c.in-Some.is _ _ _ _ _ c.entries-w.ensures
    c.verdict-v.result _ _ c.verdict-v.ensures c.own-told.result _ c.own-told.ensures c.if-c-size.true

pub overflow_add-result : goal.overflow_add-result
overflow_add-result c = place-fits _ c.args.c.now (omega (arith, c.type_inv)) (opens.entries-inside c.args.c.now _ c.map.ensures _ c.in-Some.is _ c.if-c-size.false)

pub returns-in-None : goal.returns-in-None
returns-in-None c = search (opens.whole-ends, walks.no-map, whole.no-map)

pub shape_of-rows : goal.shape_of-rows
shape_of-rows c = c.verdict-v.auto.rows ∙ c.entries-w.auto.rows

pub shape_of-t : goal.shape_of-t
shape_of-t c = c.own-told.auto.t ∙ c.verdict-v.auto.t ∙ c.entries-w.auto.t

pub returns-else-c-size : goal.returns-else-c-size
returns-else-c-size c = let a = c.args in whole.whole-inside a.layout a.s.now a.c.now a.start a.to a.t.now (omega (arith, c.type_inv)) _ c.map.ensures _ c.in-Some.is _ _ _ _ _ c.entries-w.ensures
    c.verdict-v.result _ _ c.verdict-v.ensures c.own-told.result _ c.own-told.ensures c.if-c-size.false
