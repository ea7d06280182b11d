-- `badroot::names` meets its contract: a law for each branch.
use Rattle.badroot.proofs.Valued as valued
use lib.ListN.{length-replicate}
use Rattle.badroot.proofs.names.Goals as goal

pub returns : goal.returns
returns c = search (valued.names-limited, length-replicate)
