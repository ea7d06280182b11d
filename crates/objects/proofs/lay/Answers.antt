-- `objects::lay` meets its contract: a law for each branch.
use Rattle.table.proofs.ObjectLoop as objecting
use Rattle.walk.proofs.Opens as opens
use Rattle.objects.proofs.lay.Goals as goal

pub slice_bounds-entries-count : goal.slice_bounds-entries-count
slice_bounds-entries-count c = search opens.size-inside

pub slice_bounds-entries-start : goal.slice_bounds-entries-start
slice_bounds-entries-start c = search opens.size-inside

pub entries-requires : goal.entries-requires
entries-requires c = search opens.modes

pub returns-in_default : goal.returns-in_default
returns-in_default c = search objecting.no-map

pub returns : goal.returns
returns c = search objecting.map-written
