-- `decimal::text::written` meets its contract: one piece after the other. Assumes nothing.
use Rattle.decimal.proofs.Letters as letters
use Rattle.decimal.proofs.text.written.Goals as goal

pub returns : goal.returns
returns c = search letters.all-written
