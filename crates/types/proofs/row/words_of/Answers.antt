-- `types::row::words_of` meets its contract: a short text by its one number, any other by `any_words`.
use Rattle.types.proofs.Named as laws
use Rattle.types.proofs.row.words_of.Goals as goal

pub returns-then-k-le7 : goal.returns-then-k-le7
returns-then-k-le7 c = search laws.tells-one

pub returns : goal.returns
returns c = search laws.tells-whole
