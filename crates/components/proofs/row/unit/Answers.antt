use Rattle.components.proofs.Units as units
use Rattle.components.proofs.row.unit.Goals as goal

pub returns-then-left-eq0 : goal.returns-then-left-eq0
returns-then-left-eq0 c = search units.unit-none

pub returns : goal.returns
returns c = search units.unit-some
