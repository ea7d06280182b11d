-- `states::just` meets its contract: a law for each way out. Assumes nothing.
use Rattle.states.proofs.Tested as states
use Rattle.states.proofs.just.Goals as goal

pub returns-then-held-objects : goal.returns-then-held-objects
returns-then-held-objects c = search states.objects-past

pub returns-then-rest-components : goal.returns-then-rest-components
returns-then-rest-components c = search states.components-past

pub returns : goal.returns
returns c = search states.just_so
