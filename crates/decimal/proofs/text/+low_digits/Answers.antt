-- `decimal::text::low_digits` meets its contract: it calls itself on one digit fewer. Assumes nothing.
use Rattle.decimal.proofs.Letters as letters
use Rattle.decimal.proofs.text.+low_digits.Goals as goal

pub returns-then-k-eq0 : goal.returns-then-k-eq0
returns-then-k-eq0 t c = search letters.low-none

pub returns : goal.returns
returns t c = search (letters.both, letters.low-more)
