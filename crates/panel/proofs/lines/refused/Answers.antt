-- `panel::lines::refused` meets its contract: one piece after the other. Assumes nothing.
use Rattle.panel.proofs.Pieces as writing
use Rattle.meaning.specs.Listing.{line, blanked}
use Rattle.panel.proofs.lines.refused.Goals as goal

pub returns : goal.returns
unfolding line blanked
returns c = search writing.in_four
