-- `explain::sound` meets its contract: a law for each need.
use Rattle.explain.proofs.OwnCheck as own
use Rattle.explaining.proofs.Answers as answers
use Rattle.explain.proofs.sound.Goals as goal

pub returns-then-room-needed : goal.returns-then-room-needed
returns-then-room-needed c = search (own.too-little, c.from.ensures)

pub returns : goal.returns
returns c = search answers.enough
