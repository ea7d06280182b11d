-- `keys::first` meets its contract: a law for each branch.
use Rattle.keys.proofs.Parts as parts
use Rattle.keys.proofs.first.Goals as goal

pub returns-then-seen-eq0 : goal.returns-then-seen-eq0
returns-then-seen-eq0 c = search parts.none_seen

pub returns : goal.returns
returns c = search parts.one_seen
