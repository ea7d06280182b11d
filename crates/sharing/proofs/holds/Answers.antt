-- `sharing::holds` meets its contract: a law for each way out. Assumes nothing.
use Rattle.sharing.proofs.ByPlace as calls
use Rattle.sharing.proofs.holds.Goals as goal

pub state_at-at-requires : goal.state_at-at-requires
state_at-at-requires c = search calls.known

pub overflow_add-end : goal.overflow_add-end
overflow_add-end c = search calls.state-fits

pub offset_bounds-shared-at : goal.offset_bounds-shared-at
offset_bounds-shared-at c = search calls.state-place-fits

pub slice_bounds-held_by-end : goal.slice_bounds-held_by-end
slice_bounds-held_by-end c = search calls.state-inside

pub returns-in-Nowhere : goal.returns-in-Nowhere
returns-in-Nowhere c = search calls.nowhere-held

pub returns-in-Idle : goal.returns-in-Idle
returns-in-Idle c = search calls.idle-held

pub returns-in-Loaded : goal.returns-in-Loaded
returns-in-Loaded c = search calls.loaded-held
