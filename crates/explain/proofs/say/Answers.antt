-- `explain::say` meets its contract: a law for each need.
use Rattle.explain.proofs.OwnCheck as own
use Rattle.explain.proofs.say.Goals as goal

pub say-requires : goal.say-requires
say-requires c = search own.place-small

pub returns : goal.returns
returns c = search (own.sentence-told, own.sentence-written)
