-- `badcomponent::lacks` meets its contract: a law for each branch.
use Rattle.component.proofs.Verdicts as verdicts
use Rattle.badcomponent.proofs.Whole as whole
use Rattle.badcomponent.proofs.lacks.Goals as goal

pub returns-then-p-eq0 : goal.returns-then-p-eq0
returns-then-p-eq0 c = search whole.lacks-offset

pub returns-then-p-eq0-2 : goal.returns-then-p-eq0-2
returns-then-p-eq0-2 c = search whole.lacks-length

pub returns-then-layout-eq1 : goal.returns-then-layout-eq1
returns-then-layout-eq1 c = search (whole.lacks-dtype, verdicts.lacks-none)

pub returns : goal.returns
returns c = search (whole.lacks-dtype, verdicts.lacks-if)
