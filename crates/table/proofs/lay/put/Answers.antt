-- `table::lay::put` meets its contract: a law for each branch.
use Rattle.table.proofs.Runs as laying
use Rattle.table.proofs.lay.put.Goals as goal

pub returns-else-i-t : goal.returns-else-i-t
returns-else-i-t c = search laying.put-out
