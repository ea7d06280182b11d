-- `sentence::line` meets its contract: a law for each branch.
use Rattle.sentence.proofs.Lines as lines
use Rattle.sentence.proofs.line.Goals as goal

pub returns-then-e-eq0 : goal.returns-then-e-eq0
returns-then-e-eq0 c = search lines.is-accepted

pub returns : goal.returns
returns c = search lines.is-refused
