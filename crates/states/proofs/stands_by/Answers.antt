-- `states::stands_by` meets its contract: a law for each way out. Assumes nothing.
use Rattle.states.proofs.Tested as states
use Rattle.states.proofs.stands_by.Goals as goal

pub returns-then-s-eq0 : goal.returns-then-s-eq0
returns-then-s-eq0 c = search states.stands-idle

pub returns : goal.returns
returns c = search states.stands-loaded
