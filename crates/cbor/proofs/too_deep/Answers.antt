use Rattle.cbor.proofs.Answers as answers
use Rattle.cbor.proofs.Returns as says
use Rattle.cbor.proofs.too_deep.Goals as goal

pub returns-then-count-eq0 : goal.returns-then-count-eq0
returns-then-count-eq0 c = search answers.nothing-due

pub returns-then-s-eq0 : goal.returns-then-s-eq0
returns-then-s-eq0 c = search says.due-missing

pub returns-then-s : goal.returns-then-s
returns-then-s c = search says.due-breaks

pub returns : goal.returns
returns c = search says.due-deep
