-- `decimal::text::float` meets its contract: a law for each branch. Assumes nothing.
use Rattle.decimal.proofs.Letters as letters
use Rattle.put.proofs.PiecesInTurn as writing
use Rattle.decimal.proofs.text.float.Goals as goal

pub returns-then-m-lt2147483648 : goal.returns-then-m-lt2147483648
returns-then-m-lt2147483648 c = search (writing.as_bytes, letters.text-plus)

pub returns : goal.returns
returns c = search (letters.both, letters.text-minus)
