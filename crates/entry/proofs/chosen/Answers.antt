-- `entry::chosen` meets its contract: a law for each branch.
use Rattle.entry.proofs.EntryByIndex as choosing
use Rattle.entry.proofs.chosen.Goals as goal

pub returns-then-n-index : goal.returns-then-n-index
returns-then-n-index c = search choosing.is-chosen

pub returns : goal.returns
returns c = search choosing.not_chosen
