-- `panel::ends::ending` meets its contract: a law for each branch. Assumes nothing.
use Rattle.panel.proofs.LineEnds as ends
use Rattle.put.proofs.PiecesInTurn as writing
use Rattle.panel.proofs.ends.ending.Goals as goal

pub returns-then-summary : goal.returns-then-summary
returns-then-summary c = search (writing.as_bytes, ends.with-found)

pub returns : goal.returns
returns c = search (writing.as_bytes, ends.without)
