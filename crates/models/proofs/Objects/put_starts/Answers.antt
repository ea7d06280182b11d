-- `models::Objects::put_starts` meets its contract. The loop's invariant: the first j are put.
use Rattle.models.proofs.Numbered as objects
use Rattle.models.proofs.Objects.put_starts.Goals as goal

pub loop-j-init : goal.loop-j-init
loop-j-init c = search objects.begun-none

pub loop-j-preserved : goal.loop-j-preserved
loop-j-preserved c = search objects.begun_more
