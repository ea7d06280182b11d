use Rattle.cbor.proofs.Answers as answers
use Rattle.cbor.proofs.doubled.Goals as goal

pub returns-then-n-lt4611686018427387904 : goal.returns-then-n-lt4611686018427387904
returns-then-n-lt4611686018427387904 c = search answers.doubled-small

pub returns : goal.returns
returns c = search answers.doubled-large
