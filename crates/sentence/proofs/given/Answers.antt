-- `sentence::given` meets its contract: a law for each branch.
use Rattle.sentence.proofs.Lines as lines
use Rattle.sentence.proofs.given.Goals as goal

pub returns-then-place-eq0 : goal.returns-then-place-eq0
returns-then-place-eq0 c = search lines.at-start

pub returns : goal.returns
returns c = search lines.placed-later
