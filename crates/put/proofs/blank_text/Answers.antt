-- `put::blank_text` meets its contract: a law for each branch. Assumes nothing.
use Rattle.put.proofs.PiecesInTurn as writing
use Rattle.put.proofs.blank_text.Goals as goal

pub returns : goal.returns
returns c = search writing.byte-then
