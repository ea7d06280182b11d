-- `put::capped_place` meets its contract. Assumes nothing.
use Rattle.put.proofs.PiecesInTurn as writing
use Rattle.put.proofs.capped_place.Goals as goal

pub returns : goal.returns
returns c = writing.capped-least _ c.min.ensures
