-- `differing::type_name` meets its contract: a law for each branch.
use Rattle.differing.proofs.Columns as columns
use Rattle.differing.proofs.type_name.Goals as goal

pub returns-then-absent : goal.returns-then-absent
returns-then-absent c = search columns.type-none

pub returns-else-absent : goal.returns-else-absent
returns-else-absent c = search columns.type-some
