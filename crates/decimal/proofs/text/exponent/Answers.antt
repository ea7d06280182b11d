-- `decimal::text::exponent` meets its contract: a law for each branch. Assumes nothing.
use Rattle.decimal.proofs.Letters as letters
use Rattle.decimal.proofs.text.exponent.Goals as goal

pub returns-then-place-lt45 : goal.returns-then-place-lt45
returns-then-place-lt45 c = search (letters.both, letters.exponent-minus)

pub returns : goal.returns
returns c = search (letters.both, letters.exponent-plus)
