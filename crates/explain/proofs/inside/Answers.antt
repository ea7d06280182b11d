-- `explain::inside` meets its contract: a law for each need.
use Rattle.explain.proofs.OwnCheck as own
use Rattle.explain.proofs.inside.Goals as goal

pub returns : goal.returns
returns c = rw (← c.from-n.ensures) (search own.of-object)
