-- `badparts::at_length` meets its contract: a law for each branch.
use Rattle.badparts.proofs.Entries as entries
use Rattle.badparts.proofs.at_length.Goals as goal

pub returns : goal.returns
returns c = search entries.at_length
