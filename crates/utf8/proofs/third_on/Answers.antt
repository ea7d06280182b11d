-- `text::utf::third_on` meets its contract: a law for each test. Assumes nothing.
use Rattle.utf8.proofs.CharEnds as ends
use Rattle.utf8.proofs.third_on.Goals as goal

pub returns-then-s-lt3 : goal.returns-then-s-lt3
returns-then-s-lt3 c = search ends.third-missing

pub returns-then-b-lt128 : goal.returns-then-b-lt128
returns-then-b-lt128 c = search ends.third-under

pub returns-then-b-gt191 : goal.returns-then-b-gt191
returns-then-b-gt191 c = search ends.third-over

pub returns-then-need-eq1 : goal.returns-then-need-eq1
returns-then-need-eq1 c = search ends.third_last

pub returns-then-s-lt4 : goal.returns-then-s-lt4
returns-then-s-lt4 c = search ends.fourth-missing

pub returns-then-e-lt128 : goal.returns-then-e-lt128
returns-then-e-lt128 c = search ends.fourth-under

pub returns-then-e-gt191 : goal.returns-then-e-gt191
returns-then-e-gt191 c = search ends.fourth-over

pub returns : goal.returns
returns c = search ends.fourth-last
