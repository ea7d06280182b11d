-- `panel::lines::blob` meets its contract: the words, and what follows them. Assumes nothing.
use Rattle.panel.proofs.LinesInTurn as following
use Rattle.panel.proofs.lines.blob.Goals as goal

pub returns : goal.returns
returns c = search following.blob-written
