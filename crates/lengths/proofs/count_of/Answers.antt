-- `lengths::count_of` meets its contract: a unit of 0 by itself. Assumes nothing.
use Rattle.lengths.proofs.Exact as laws
use Rattle.lengths.proofs.count_of.Goals as goal

pub returns-then-unit-eq0 : goal.returns-then-unit-eq0
returns-then-unit-eq0 c = search laws.count_none
