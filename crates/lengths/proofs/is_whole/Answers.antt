-- `lengths::is_whole` meets its contract: a unit of 0 by itself. Assumes nothing.
use Rattle.lengths.proofs.Exact as laws
use Rattle.lengths.proofs.is_whole.Goals as goal

pub returns-then-unit-eq0 : goal.returns-then-unit-eq0
returns-then-unit-eq0 c = search laws.whole-none
