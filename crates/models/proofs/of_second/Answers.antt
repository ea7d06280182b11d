-- `models::of_second` meets its contract. The loop's invariant: what is still to be written.
use Rattle.models.proofs.Numbered as objects
use Rattle.models.proofs.of_second.Goals as goal

pub loop-j-preserved : goal.loop-j-preserved
loop-j-preserved c = search objects.one_more

pub returns : goal.returns
returns c = search objects.all-news
