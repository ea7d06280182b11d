-- `models::of_first` meets its contract. The loop's invariant: what is still to be written.
use Rattle.models.proofs.Numbered as objects
use Rattle.models.proofs.of_first.Goals as goal

pub loop-i-preserved : goal.loop-i-preserved
loop-i-preserved c = search objects.one_more

pub returns : goal.returns
returns c = search objects.all-olds
