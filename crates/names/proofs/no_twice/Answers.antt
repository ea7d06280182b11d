-- `names::no_twice` meets its contract. Assumes nothing.
use Rattle.names.proofs.ListedNames as listed
use Rattle.names.proofs.no_twice.Goals as goal

pub returns : goal.returns
returns c = search listed.leading-decides
