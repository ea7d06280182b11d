-- `pairs::of_components` meets its contract: what both loops saw, together.
use Rattle.pairs.proofs.Written as written
use Rattle.pairs.proofs.of_components.Goals as goal

pub returns : goal.returns
returns c = search written.both-seen
