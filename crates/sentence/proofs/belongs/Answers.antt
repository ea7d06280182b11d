-- `sentence::belongs` meets its contract: a law for each branch.
use Rattle.sentence.proofs.Lines as lines
use Rattle.sentence.proofs.belongs.Goals as goal

pub returns-then-given : goal.returns-then-given
returns-then-given c = search lines.is-given

pub returns : goal.returns
returns c = search lines.not-given
