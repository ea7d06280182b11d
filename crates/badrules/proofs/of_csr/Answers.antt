-- `badrules::of_csr` meets its contract: a law for each branch.
use Rattle.badrules.proofs.Roles as roles
use Rattle.badrules.proofs.of_csr.Goals as goal

pub returns-then-odd : goal.returns-then-odd
returns-then-odd c = search roles.odd-indices

pub returns-then-there : goal.returns-then-there
returns-then-there c = search roles.then-indptr

pub returns : goal.returns
returns c = search roles.no-indices
