-- `badobject::lacks` meets its contract: a law for each branch.
use Rattle.badobject.proofs.Whole as whole
use Rattle.badobject.proofs.lacks.Goals as goal

pub returns-then-p-eq0 : goal.returns-then-p-eq0
returns-then-p-eq0 c = search whole.lacks-shape

pub returns-then-p-eq0-2 : goal.returns-then-p-eq0-2
returns-then-p-eq0-2 c = search whole.lacks-format

pub returns-then-p-eq0-3 : goal.returns-then-p-eq0-3
returns-then-p-eq0-3 c = search whole.lacks-components

pub returns-then-layout-eq1 : goal.returns-then-layout-eq1
returns-then-layout-eq1 c = search whole.lacks-dtype

pub returns : goal.returns
returns c = search whole.lacks-nothing
