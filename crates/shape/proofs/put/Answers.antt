-- `shape::put` meets its contract: a law for each branch.
use Rattle.shape.proofs.Elements as elements
use Rattle.shape.proofs.put.Goals as goal

pub returns-then-i-a : goal.returns-then-i-a
returns-then-i-a c = search elements.put-there

pub returns-else-i-a : goal.returns-else-i-a
returns-else-i-a c = search elements.put-past
