-- `table::object_row::put_sixteen` meets its contract: a law for each branch.
use Rattle.table.proofs.ObjectRow as rows
use Rattle.table.proofs.Runs as laying
use borrow.Author.Rules.{rules}
use Rattle.table.proofs.object_row.put_sixteen.Goals as goal

pub returns-then-i-t : goal.returns-then-i-t
returns-then-i-t c = let a = c.args in rows.sixteen-put a.t.now _ _ _ _ a.i _ _ _ _ _ _ _ _ _ _ _ _ _ _ _ _ c.put.ensures c.five-then-i-t-2.ensures c.five-then-i-t.ensures c.five.ensures

pub returns-else-i-t : goal.returns-else-i-t
returns-else-i-t c = search (rules, laying.sets-out)
