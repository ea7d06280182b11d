-- `panel::lines::object` meets its contract: a law for each branch. Assumes nothing.
use Rattle.panel.proofs.LinesInTurn as following
use Rattle.panel.proofs.lines.object.Goals as goal

pub returns : goal.returns
returns c = search following.object-written
