-- `put::plain` meets its contract. Assumes nothing.
use Rattle.put.proofs.Pieces as pieces
use Rattle.put.proofs.plain.Goals as goal

pub returns-then-is_ascii_graphic : goal.returns-then-is_ascii_graphic
returns-then-is_ascii_graphic c = pieces.graphic _ c.is_ascii_graphic.ensures.value c.if-is_ascii_graphic.true

pub returns-else-is_ascii_graphic : goal.returns-else-is_ascii_graphic
returns-else-is_ascii_graphic c = pieces.not-graphic _ c.is_ascii_graphic.ensures.value c.if-is_ascii_graphic.false
