-- `object::pass::value` meets its contract: a law for each branch.
use Rattle.object.proofs.EntryLoop as looping
use Rattle.object.proofs.Waiting as waiting
use Rattle.walk.proofs.Opens as opens
use Rattle.object.proofs.pass.value.Goals as goal

pub returns-then-waits : goal.returns-then-waits
returns-then-waits c = search (opens.whole-ends, looping.as-found, waiting.stays)

pub returns : goal.returns
returns c = search (opens.whole-ends, looping.first-judged, waiting.first-put)
