-- `objects::objects` meets its contract: a law for each branch.
use native.Mathlib.Omega.{arith}
use Rattle.objects.proofs.Walks as walks
use Rattle.walk.proofs.Opens as opens
use Rattle.objects.proofs.objects.Goals as goal

pub slice_bounds-entries-count : goal.slice_bounds-entries-count
slice_bounds-entries-count c = search opens.size-inside

pub slice_bounds-entries-start : goal.slice_bounds-entries-start
slice_bounds-entries-start c = search opens.size-inside

pub entries-w-requires : goal.entries-w-requires
entries-w-requires c = search opens.modes

pub slice_bounds-verdict-count : goal.slice_bounds-verdict-count
slice_bounds-verdict-count c = search opens.size-inside

pub slice_bounds-verdict-start : goal.slice_bounds-verdict-start
slice_bounds-verdict-start c = search opens.size-inside

pub overflow_sub-c : goal.overflow_sub-c
overflow_sub-c c = search opens.size-inside

pub returns-then-c-from : goal.returns-then-c-from
returns-then-c-from c = let a = c.args in (
  opens.ends-faulty a.c.now _ c.map.ensures _ c.in-Some.is 30 (omega (arith, c.type_inv)) _ c.entries-w.ensures.0 c.if-c-from.true,
  walks.entries-judged _ _ a.c.now _ _ c.map.ensures _ c.in-Some.is _ _ _ _ c.entries-w.ensures.2 _ c.verdict-f.ensures,
)

pub overflow_add-result : goal.overflow_add-result
overflow_add-result c = omega (arith, opens.size-inside c.args.c.now _ c.map.ensures _ c.in-Some.is, c.if-c-from.false, c.type_inv)

pub returns-in-None : goal.returns-in-None
returns-in-None c = search (walks.ends_so, walks.no-map)

pub returns-else-c-from : goal.returns-else-c-from
returns-else-c-from c = let a = c.args in (
  opens.ends-inside a.c.now _ c.map.ensures _ c.in-Some.is 30 (omega (arith, c.type_inv)) _ c.entries-w.ensures.0 c.if-c-from.false,
  walks.entries-judged _ _ a.c.now _ _ c.map.ensures _ c.in-Some.is _ _ _ _ c.entries-w.ensures.2 _ c.verdict-f.ensures,
)
