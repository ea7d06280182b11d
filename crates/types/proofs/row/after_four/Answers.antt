-- `types::row::after_four` meets its contract, by the law `tagged-late`.
use Rattle.types.proofs.Tagged as laws
use Rattle.types.proofs.row.after_four.Goals as goal

pub returns : goal.returns
returns c = (search laws.late-makes, search laws.late-small)
