-- `types::row::tagged` meets its contract: a few bytes, or four and the rest.
use Rattle.types.proofs.Tagged as laws
use Rattle.types.proofs.row.tagged.Goals as goal

pub returns-then-k-lt4 : goal.returns-then-k-lt4
returns-then-k-lt4 c = search laws.whole-tagged

pub returns : goal.returns
returns c = search laws.four-and-rest
