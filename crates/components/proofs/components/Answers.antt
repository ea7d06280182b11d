-- `components::components` meets its contract: a law for each branch.
use Rattle.meaning.proofs.Lengths.{place-fits}
use Rattle.walk.proofs.Opens as opens
use Rattle.components.proofs.Walks as walks
use Rattle.table.proofs.RowLoop as rowing
use native.Mathlib.Omega.{arith}
use Rattle.components.proofs.components.Goals as goal

pub slice_bounds-entries-count : goal.slice_bounds-entries-count
slice_bounds-entries-count c = search opens.size-inside

pub slice_bounds-entries-start : goal.slice_bounds-entries-start
slice_bounds-entries-start c = search opens.size-inside

pub entries-w-requires : goal.entries-w-requires
entries-w-requires c = search opens.modes

pub slice_bounds-verdict-count : goal.slice_bounds-verdict-count
slice_bounds-verdict-count c = search opens.size-inside

pub slice_bounds-verdict-start : goal.slice_bounds-verdict-start
slice_bounds-verdict-start c = search opens.size-inside

pub overflow_sub-c : goal.overflow_sub-c
overflow_sub-c c = search opens.size-inside

pub returns-then-c-from : goal.returns-then-c-from
returns-then-c-from c = walks.whole-faulty c.args.c.now (omega (arith, c.type_inv)) c.map.ensures c.in-Some.is c.entries-w.ensures c.verdict-f.result c.verdict-f.ensures c.if-c-from.true

pub overflow_add-result : goal.overflow_add-result
overflow_add-result c = place-fits _ c.args.c.now (omega (arith, c.type_inv)) (opens.entries-inside c.args.c.now _ c.map.ensures _ c.in-Some.is _ c.if-c-from.false)

pub returns-in-None : goal.returns-in-None
returns-in-None c = search (opens.whole-ends, walks.no-map, rowing.no-map)

pub returns-else-c-from : goal.returns-else-c-from
returns-else-c-from c = walks.whole-inside c.args.c.now (omega (arith, c.type_inv)) c.map.ensures c.in-Some.is c.entries-w.ensures c.verdict-f.result c.verdict-f.ensures c.if-c-from.false
