-- `sentence::listed` meets its contract: a law for each branch.
use Rattle.sentence.proofs.Reasons as reasons
use Rattle.sentence.proofs.listed.Goals as goal

pub returns-then-number-gt-ROOM : goal.returns-then-number-gt-ROOM
returns-then-number-gt-ROOM c = search reasons.too-high

pub returns-then-number-eq-SHORT : goal.returns-then-number-eq-SHORT
returns-then-number-eq-SHORT c = search reasons.old-short

pub returns-then-number-eq-FIT : goal.returns-then-number-eq-FIT
returns-then-number-eq-FIT c = search reasons.old-fit

pub returns-else-number-eq-FIT : goal.returns-else-number-eq-FIT
returns-else-number-eq-FIT c = search reasons.old-other

pub returns-else-layout-eq1 : goal.returns-else-layout-eq1
returns-else-layout-eq1 c = search reasons.as-numbered
