-- `badparts::at_value` meets its contract: a law for each branch.
use Rattle.badparts.proofs.Entries as entries
use Rattle.badparts.proofs.at_value.Goals as goal

pub returns : goal.returns
returns c = search entries.at_value
