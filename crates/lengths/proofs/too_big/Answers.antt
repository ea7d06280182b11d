-- `lengths::too_big` meets its contract: factors of 32 bits fit, and a quotient tells the others. Assumes nothing.
use Rattle.lengths.proofs.Exact as laws
use Rattle.lengths.proofs.too_big.Goals as goal

pub returns-then-b-le4294967295 : goal.returns-then-b-le4294967295
returns-then-b-le4294967295 c = search laws.small-over

pub returns-then-a-eq0 : goal.returns-then-a-eq0
returns-then-a-eq0 c = search laws.zero-over

pub returns : goal.returns
returns c = search laws.over-so
