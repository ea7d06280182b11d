use Rattle.cbor.proofs.Answers as answers
use Rattle.cbor.proofs.string_end.Goals as goal

pub returns-then-len-size : goal.returns-then-len-size
returns-then-len-size c = search answers.no-head

pub returns-then-len-size-2 : goal.returns-then-len-size-2
returns-then-len-size-2 c = search answers.too_short

pub returns : goal.returns
returns c = search answers.string-there
