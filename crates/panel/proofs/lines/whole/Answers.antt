-- `panel::lines::whole` meets its contract: a law for each branch. Assumes nothing.
use Rattle.panel.proofs.Sound as rows
use Rattle.put.proofs.PiecesInTurn as writing
use Rattle.panel.specs.Lines.{text}
use Rattle.panel.proofs.lines.whole.Goals as goal

pub overflow_mul-objects : goal.overflow_mul-objects
overflow_mul-objects c = search rows.sound-fit

pub objects_of-requires : goal.objects_of-requires
objects_of-requires c = search rows.lines-lie

pub returns : goal.returns
unfolding text
returns c = search writing.then
