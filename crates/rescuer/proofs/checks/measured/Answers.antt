-- `rescuer::checks::measured` meets its contract: the sums of what the first pass keeps.
use Rattle.rescuer.proofs.BeforeRoom as checking
use Rattle.rescuer.proofs.checks.measured.Goals as goal

pub returns : goal.returns
returns c = search checking.measured-so
