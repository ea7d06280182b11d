use Rattle.cbor.proofs.Answers as answers
use Rattle.cbor.proofs.broken.Goals as goal

pub returns-then-mode-eq0 : goal.returns-then-mode-eq0
returns-then-mode-eq0 c = search answers.broken-count

pub returns-then-mode-eq1 : goal.returns-then-mode-eq1
returns-then-mode-eq1 c = search answers.broken-array

pub returns-then-left-eq0 : goal.returns-then-left-eq0
returns-then-left-eq0 c = search answers.broken-value

pub returns : goal.returns
returns c = search answers.broken-key
