-- `panel::ends::bytes_line` meets its contract: one piece after the other. Assumes nothing.
use Rattle.meaning.specs.Listing.{line, blanked}
use Rattle.panel.specs.Summary.{bytes_line}
use Rattle.put.proofs.PiecesInTurn as writing
use Rattle.panel.proofs.ends.bytes_line.Goals as goal

pub returns : goal.returns
unfolding line blanked bytes_line
returns c =
    writing.then c.numbered-a.ensures
    (writing.then c.numbered-b.ensures (writing.then c.numbered-c.ensures (writing.then c.numbered-d.ensures c.byte.ensures)))
