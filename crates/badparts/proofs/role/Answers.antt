-- `badparts::role` meets its contract: a law for each branch.
use Rattle.badparts.proofs.Whole as whole
use Rattle.badparts.proofs.role.Goals as goal

pub returns-then-to_blame : goal.returns-then-to_blame
returns-then-to_blame c = search whole.index-shows

pub returns : goal.returns
returns c = search whole.map-shows
