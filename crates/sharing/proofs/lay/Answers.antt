-- `sharing::lay` meets its contract: a law for each way out. Assumes nothing.
use Rattle.sharing.proofs.Laid as laid
use Rattle.sharing.proofs.lay.Goals as goal

pub returns-then-engine-eq0 : goal.returns-then-engine-eq0
returns-then-engine-eq0 c = search (laid.first-told 65536, laid.first-left 65536)

pub returns : goal.returns
returns c = search (laid.last-told 65536, laid.last-left 65536)
