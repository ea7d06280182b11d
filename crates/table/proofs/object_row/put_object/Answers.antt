-- `table::object_row::put_object` meets its contract: a law for each branch.
use Rattle.table.proofs.ObjectRow as rows
use Rattle.table.proofs.object_row.put_object.Goals as goal

pub returns-then-t-i : goal.returns-then-t-i
returns-then-t-i c = search rows.row-beyond

pub returns : goal.returns
returns c = search rows.row_put
