-- `sharing::release` meets its contract: a law for each way out. Assumes nothing.
use Rattle.sharing.proofs.ByPlace as calls
use Rattle.sharing.proofs.release.Goals as goal

pub clear-requires : goal.clear-requires
clear-requires c = search calls.to_clear

pub state_at-requires : goal.state_at-requires
state_at-requires c = search calls.engine-known

pub clear-requires-in-Loaded : goal.clear-requires-in-Loaded
clear-requires-in-Loaded c = search calls.state-to-clear

pub returns-in-Nowhere : goal.returns-in-Nowhere
returns-in-Nowhere c = search (calls.nowhere-dropped, calls.nowhere-left)

pub returns-in-Idle : goal.returns-in-Idle
returns-in-Idle c = search (calls.idle-dropped, calls.idle-left)

pub returns-in-Loaded : goal.returns-in-Loaded
returns-in-Loaded c = search (calls.loaded-dropped, calls.loaded-left)
