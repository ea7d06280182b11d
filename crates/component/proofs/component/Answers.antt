-- `component::component` meets its contract: a law for each branch.
use Rattle.walk.proofs.Opens as opens
use Rattle.component.proofs.MapOrNot as maps
use Rattle.component.proofs.component.Goals as goal

pub slice_bounds-entries-count : goal.slice_bounds-entries-count
slice_bounds-entries-count c = search opens.size-inside

pub slice_bounds-entries-start : goal.slice_bounds-entries-start
slice_bounds-entries-start c = search opens.size-inside

pub entries-e-requires : goal.entries-e-requires
entries-e-requires c = search opens.modes

pub slice_bounds-verdict-count : goal.slice_bounds-verdict-count
slice_bounds-verdict-count c = search opens.size-inside

pub slice_bounds-verdict-start : goal.slice_bounds-verdict-start
slice_bounds-verdict-start c = search opens.size-inside

pub overflow_sub-c : goal.overflow_sub-c
overflow_sub-c c = search opens.size-inside

pub returns-then-c-size : goal.returns-then-c-size
returns-then-c-size c = search (maps.ends-faulty, maps.entries-judged)

pub returns-in-None : goal.returns-in-None
returns-in-None c = search (opens.whole-ends, maps.no-map)

pub returns-else-c-size : goal.returns-else-c-size
returns-else-c-size c = search (maps.ends-inside, maps.entries-judged)
