-- `panel::lines::blob_words` meets its contract: one piece after the other. Assumes nothing.
use Rattle.put.proofs.PiecesInTurn as writing
use Rattle.panel.specs.Lines.{blob_words}
use Rattle.panel.proofs.lines.blob_words.Goals as goal

pub returns : goal.returns
unfolding blob_words
returns c = search writing.then
