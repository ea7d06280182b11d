-- `view::inside` meets its contract: a law for each branch. Assumes nothing.
use Rattle.view.proofs.Extents as extents
use Rattle.view.proofs.inside.Goals as goal

pub returns-then-inside : goal.returns-then-inside
returns-then-inside c = search extents.lies

pub returns : goal.returns
returns c = search extents.lies-not
