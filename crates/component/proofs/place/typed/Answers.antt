-- `component::place::typed` meets its contract: a law for each branch.
use Rattle.component.proofs.Values as values
use Rattle.component.proofs.place.typed.Goals as goal

pub returns-then-left-eq0 : goal.returns-then-left-eq0
returns-then-left-eq0 c = search values.type-absent

pub returns-then-null : goal.returns-then-null
returns-then-null c = search values.type-null

pub returns : goal.returns
returns c = search values.type-there
