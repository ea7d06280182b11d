-- `sharing::held_by` meets its contract: a law for each way out. Assumes nothing.
use Rattle.sharing.proofs.Looked as looked
use Rattle.sharing.proofs.held_by.Goals as goal

pub returns : goal.returns
returns c = search looked.held-is
