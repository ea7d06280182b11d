-- `table::lay::five` meets its contract: a law for each branch.
use Rattle.table.proofs.Runs as laying
use borrow.Author.Rules.{rules}
use Rattle.table.proofs.lay.five.Goals as goal

pub returns-then-i-t : goal.returns-then-i-t
returns-then-i-t c = let a = c.args in laying.five-put a.t.now _ _ _ _ _ _ a.a _ _ _ _ c.put-then-i-t-4.ensures c.put-then-i-t-3.ensures c.put-then-i-t-2.ensures c.put-then-i-t.ensures c.put.ensures

pub returns-else-i-t : goal.returns-else-i-t
returns-else-i-t c = search (rules, laying.sets-out)
