-- `table::stored::storage` meets its contract: only layout 1.0 asks for the role.
use Rattle.table.proofs.Storage as storing
use Rattle.table.proofs.stored.storage.Goals as goal

pub returns-then-layout-eq1 : goal.returns-then-layout-eq1
returns-then-layout-eq1 c = search storing.role-stored

pub returns : goal.returns
returns c = search storing.other-layout
