-- `panel::summed` meets its contract: the lines, and the last. Assumes nothing.
use Rattle.panel.specs.Summary.{summary_text}
use Rattle.put.proofs.PiecesInTurn as writing
use Rattle.panel.proofs.summed.Goals as goal

pub returns : goal.returns
unfolding summary_text
returns c = search writing.then
