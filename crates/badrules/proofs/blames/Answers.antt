-- `badrules::blames` meets its contract: a law for each branch.
use Rattle.badrules.proofs.Roles as roles
use Rattle.badrules.proofs.blames.Goals as goal

pub returns-then-format-eq1 : goal.returns-then-format-eq1
returns-then-format-eq1 c = search roles.as-csr

pub returns-then-format-eq2 : goal.returns-then-format-eq2
returns-then-format-eq2 c = search roles.as-coo

pub returns-then-there : goal.returns-then-there
returns-then-there c = search roles.as-other

pub returns : goal.returns
returns c = search roles.no-values
