-- `badrules::odd` meets its contract: a law for each branch.
use Rattle.badrules.proofs.Roles as roles
use Rattle.badrules.proofs.odd.Goals as goal

pub returns-in-None : goal.returns-in-None
returns-in-None c = search roles.not-odd

pub returns-in-Some : goal.returns-in-Some
returns-in-Some c = search roles.is_odd
