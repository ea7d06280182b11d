-- `component::judge::extent` meets its contract: a law for each branch.
use Rattle.component.proofs.Pieces as pieces
use Rattle.component.proofs.judge.extent.Goals as goal

pub returns-in_default : goal.returns-in_default
returns-in_default c = search pieces.no-offset

pub returns-in_default-number_at : goal.returns-in_default-number_at
returns-in_default-number_at c = search pieces.no_length

pub returns : goal.returns
returns c = search pieces.both-numbers
