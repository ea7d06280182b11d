-- `sharing::list` meets its contract: a law for each way out. Assumes nothing.
use Rattle.sharing.proofs.ByPlace as calls
use Rattle.sharing.proofs.list.Goals as goal

pub overflow_add-end : goal.overflow_add-end
overflow_add-end c = search calls.rows_fit

pub offset_bounds-shared-place : goal.offset_bounds-shared-place
offset_bounds-shared-place c = search calls.place-fits

pub slice_bounds-list-end : goal.slice_bounds-list-end
slice_bounds-list-end c = search calls.rows_inside

pub returns-in-Nowhere : goal.returns-in-Nowhere
returns-in-Nowhere c = search (calls.nowhere-listed, calls.nowhere-text)

pub returns-in-Idle : goal.returns-in-Idle
returns-in-Idle c = search (calls.idle-listed, calls.idle-text)

pub returns-in-Loaded : goal.returns-in-Loaded
returns-in-Loaded c = search (calls.loaded-listed, calls.loaded-text)
