-- `sharing::load` meets its contract: a law for each way out. Assumes nothing.
use Rattle.sharing.proofs.ByPlace as calls
use Rattle.sharing.proofs.load.Goals as goal

pub lay-a-requires : goal.lay-a-requires
lay-a-requires c = search (calls.free-fits, calls.all-lent)

pub returns-then-a-gt0 : goal.returns-then-a-gt0
returns-then-a-gt0 c = search (calls.idle-loaded, calls.refused-kept)

pub settle-requires : goal.settle-requires
settle-requires c = search (calls.idle-known, calls.few-rows, calls.still-whole)

pub returns-in-Nowhere : goal.returns-in-Nowhere
returns-in-Nowhere c = search (calls.nowhere-loaded, calls.nowhere-kept)

pub returns-in-Loaded : goal.returns-in-Loaded
returns-in-Loaded c = search (calls.busy-loaded, calls.busy-kept)

pub returns-else-a-gt0 : goal.returns-else-a-gt0
returns-else-a-gt0 c = search (calls.idle-loaded, calls.accepted-kept)
