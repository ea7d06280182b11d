-- `sentence::bounds` meets its contract: a law for each branch.
use Rattle.sentence.proofs.Lines as lines
use Rattle.sentence.proofs.bounds.Goals as goal

pub returns-then-number-eq-ROOM : goal.returns-then-number-eq-ROOM
returns-then-number-eq-ROOM c = search lines.needs-room

pub returns-then-size-eq0 : goal.returns-then-size-eq0
returns-then-size-eq0 c = search lines.at_byte

pub returns : goal.returns
returns c = search lines.from-to
