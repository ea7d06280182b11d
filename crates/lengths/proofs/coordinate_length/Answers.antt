-- `lengths::coordinate_length` meets its contract: a multiple of 8, and its eighth. Assumes nothing.
use Rattle.lengths.proofs.Exact as laws
use Rattle.lengths.proofs.coordinate_length.Goals as goal

pub returns-then-n-ne0 : goal.returns-then-n-ne0
returns-then-n-ne0 c = search laws.eights-odd

pub returns : goal.returns
returns c = search laws.eights-even
