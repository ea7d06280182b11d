-- `put::number` meets its contract: a law for each branch. Assumes nothing.
use Rattle.put.proofs.PiecesInTurn as writing
use Rattle.put.proofs.+number.Goals as goal

pub returns-then-n-lt10 : goal.returns-then-n-lt10
returns-then-n-lt10 t c = search writing.one-digit

pub returns : goal.returns
returns t c = search writing.more-digits
