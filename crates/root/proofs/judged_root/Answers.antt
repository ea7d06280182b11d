-- `root::judged_root` meets its contract: a law for each branch.
use Rattle.meaning.proofs.Lengths.{place-fits}
use Rattle.walk.proofs.Opens as opens
use Rattle.root.proofs.Walks as walks
use Rattle.root.proofs.judged_root.Goals as goal

pub slice_bounds-entries-count : goal.slice_bounds-entries-count
slice_bounds-entries-count c = search opens.size-inside

pub slice_bounds-entries-start : goal.slice_bounds-entries-start
slice_bounds-entries-start c = search opens.size-inside

pub entries-w-requires : goal.entries-w-requires
entries-w-requires c = search opens.modes

pub slice_bounds-verdict-count : goal.slice_bounds-verdict-count
slice_bounds-verdict-count c = search opens.size-inside

pub slice_bounds-verdict-start : goal.slice_bounds-verdict-start
slice_bounds-verdict-start c = search opens.size-inside

pub overflow_sub-s : goal.overflow_sub-s
overflow_sub-s c = search opens.size-inside

pub returns-then-s-size : goal.returns-then-s-size
returns-then-s-size c = search (walks.ends-faulty, walks.entries-judged, walks.objects-stand)

pub overflow_add-result : goal.overflow_add-result
overflow_add-result c = search (place-fits, opens.entries-inside)

pub returns-in-None : goal.returns-in-None
returns-in-None c = search (opens.whole-ends, walks.no-map, walks.no-objects)

pub returns-else-s-size : goal.returns-else-s-size
returns-else-s-size c = search (walks.ends-inside, walks.entries-judged, walks.objects-stand)
