-- `panel::lines::object_words` meets its contract: a law for each branch. Assumes nothing.
use Rattle.meaning.specs.Listing.{line, blanked}
use Rattle.put.proofs.PiecesInTurn as writing
use Rattle.panel.proofs.lines.object_words.Goals as goal

pub returns : goal.returns
unfolding line blanked
returns c = search writing.then
