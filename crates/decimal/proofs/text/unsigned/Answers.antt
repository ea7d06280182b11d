-- `decimal::text::unsigned` meets its contract: a law for each branch. Assumes nothing.
use Rattle.decimal.proofs.Letters as letters
use Rattle.put.proofs.PiecesInTurn as writing
use Rattle.decimal.proofs.text.unsigned.Goals as goal

pub returns-then-t-eq0 : goal.returns-then-t-eq0
returns-then-t-eq0 c = search (writing.as_bytes, letters.unsigned-inf)

pub returns-then-x-eq255 : goal.returns-then-x-eq255
returns-then-x-eq255 c = search (writing.as_bytes, letters.unsigned-nan)

pub returns : goal.returns
returns c = search (writing.as_bytes, letters.unsigned-number)
