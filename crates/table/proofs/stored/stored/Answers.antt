-- `table::stored::stored` meets its contract: a law for each branch.
use Rattle.table.proofs.Storage as storing
use Rattle.table.proofs.stored.stored.Goals as goal

pub returns-then-layout-ne1 : goal.returns-then-layout-ne1
returns-then-layout-ne1 c = search storing.other-layout

pub returns-then-role-eq2 : goal.returns-then-role-eq2
returns-then-role-eq2 c = search storing.csr-indices

pub returns-then-role-eq3 : goal.returns-then-role-eq3
returns-then-role-eq3 c = search storing.csr-pointers

pub returns-then-format-eq1 : goal.returns-then-format-eq1
returns-then-format-eq1 c = search storing.csr-other

pub returns-then-role-eq4 : goal.returns-then-role-eq4
returns-then-role-eq4 c = search storing.coo-coords

pub returns-else-role-eq4 : goal.returns-else-role-eq4
returns-else-role-eq4 c = search storing.coo-other

pub returns-else-format-eq2 : goal.returns-else-format-eq2
returns-else-format-eq2 c = search storing.no_index
