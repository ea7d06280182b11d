-- `comparing::compared` meets its contract: a law for each way out. Assumes nothing.
use Rattle.comparing.proofs.ComparedFiles as answering
use Rattle.comparing.proofs.compared.Goals as goal

pub returns-then-list-k : goal.returns-then-list-k
returns-then-list-k c = search (answering.too-long-told, answering.too-long-kept)

pub returns-then-k-gt0 : goal.returns-then-k-gt0
returns-then-k-gt0 c = search (answering.whole-told, answering.whole-written)

pub returns-else-k-gt0 : goal.returns-else-k-gt0
returns-else-k-gt0 c = search (answering.whole-told, answering.none_written)
