-- `badparts::inside` meets its contract: a law for each branch.
use Rattle.badparts.proofs.Entries as entries
use Rattle.badparts.proofs.inside.Goals as goal

pub returns : goal.returns
returns c = search entries.in-component
