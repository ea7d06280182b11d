-- `panel::ends::found` meets its contract: a law for each branch. Assumes nothing.
use Rattle.panel.proofs.LineEnds as ends
use Rattle.put.proofs.PiecesInTurn as writing
use Rattle.panel.proofs.ends.found.Goals as goal

pub returns-then-f-eq1 : goal.returns-then-f-eq1
returns-then-f-eq1 c = search (writing.as_bytes, ends.empty)

pub returns-then-f-eq2 : goal.returns-then-f-eq2
returns-then-f-eq2 c = search (writing.as_bytes, ends.only)

pub returns-then-f-eq3 : goal.returns-then-f-eq3
returns-then-f-eq3 c = search (writing.as_bytes, ends.spans)

pub returns : goal.returns
returns c = search (writing.as_bytes, ends.none)
