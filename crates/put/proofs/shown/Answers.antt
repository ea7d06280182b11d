-- `put::shown` meets its contract: a law for each branch. Assumes nothing.
use Rattle.put.proofs.PiecesInTurn as writing
use Rattle.put.proofs.shown.Goals as goal

pub returns-then-plain : goal.returns-then-plain
returns-then-plain c = search writing.plain-shown

pub returns : goal.returns
returns c = search writing.escaped-shown
