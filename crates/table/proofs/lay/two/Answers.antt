-- `table::lay::two` meets its contract: a law for each branch. Assumes nothing.
use Rattle.table.proofs.Runs as laying
use borrow.Author.Rules.{rules}
use Rattle.table.proofs.lay.two.Goals as goal

pub returns-then-i-t : goal.returns-then-i-t
returns-then-i-t c = search laying.two-put

pub returns-else-i-t : goal.returns-else-i-t
returns-else-i-t c = search (rules, laying.sets-out)
