-- `badcomponent::extent` meets its contract: a law for each branch.
use Rattle.badcomponent.proofs.Stretch as stretch
use Rattle.badcomponent.proofs.extent.Goals as goal

pub returns-in-None : goal.returns-in-None
returns-in-None c = search stretch.no-offset

pub returns-in-None-number_at : goal.returns-in-None-number_at
returns-in-None-number_at c = search stretch.no_length

pub returns-in-Some-number_at : goal.returns-in-Some-number_at
returns-in-Some-number_at c = search stretch.then-extras
