-- `badrules::there` meets its contract: a law for each branch.
use Rattle.badrules.proofs.Roles as roles
use Rattle.badrules.proofs.there.Goals as goal

pub returns-in-None : goal.returns-in-None
returns-in-None c = search roles.not_there

pub returns-in-Some : goal.returns-in-Some
returns-in-Some c = search roles.is-there
