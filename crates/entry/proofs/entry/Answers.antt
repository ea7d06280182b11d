-- `entry::entry` meets its contract: a law for each branch.
use Rattle.entry.proofs.EntryByIndex as choosing
use Rattle.walk.proofs.Opens as opens
use Rattle.entry.proofs.entry.Goals as goal

pub slice_bounds-entries-count : goal.slice_bounds-entries-count
slice_bounds-entries-count c = search opens.size-inside

pub slice_bounds-entries-start : goal.slice_bounds-entries-start
slice_bounds-entries-start c = search opens.size-inside

pub entries-requires : goal.entries-requires
entries-requires c = search opens.modes

pub returns-in-None : goal.returns-in-None
returns-in-None c = search choosing.no-entry

pub returns-in-Some : goal.returns-in-Some
returns-in-Some c = search choosing.of_map
