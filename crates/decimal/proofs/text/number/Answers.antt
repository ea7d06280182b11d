-- `decimal::text::number` meets its contract: a law for each branch. Assumes nothing.
use Rattle.decimal.proofs.Letters as letters
use Rattle.put.proofs.PiecesInTurn as writing
use Rattle.decimal.proofs.text.number.Goals as goal

pub returns-then-t-eq0 : goal.returns-then-t-eq0
returns-then-t-eq0 c = search (writing.as_bytes, letters.number-zero)

pub returns-then-x-eq0 : goal.returns-then-x-eq0
returns-then-x-eq0 c = search (writing.as_bytes, letters.number_small)

pub returns : goal.returns
returns c = search (writing.as_bytes, letters.number-large)
