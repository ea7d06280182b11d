-- `types::row::any_words` meets its contract: three numbers tell a text of at most 21 bytes, by the law `tagged-same`. Assumes nothing.
use Rattle.types.proofs.Named as laws
use Rattle.types.proofs.row.any_words.Goals as goal

pub returns-then-n-le7 : goal.returns-then-n-le7
returns-then-n-le7 c = search laws.tells-one

pub returns-then-n-le14 : goal.returns-then-n-le14
returns-then-n-le14 c = search laws.tells-two

pub returns-then-n-le21 : goal.returns-then-n-le21
returns-then-n-le21 c = search laws.tells-three

pub returns : goal.returns
returns c = search laws.tells-long
