-- `keys::named` meets its contract: a law for each branch.
use Rattle.keys.proofs.Parts as parts
use Rattle.keys.proofs.named.Goals as goal

pub returns-then-level-eq0 : goal.returns-then-level-eq0
returns-then-level-eq0 c = search parts.root-named

pub returns-then-level-eq1 : goal.returns-then-level-eq1
returns-then-level-eq1 c = search parts.object-named

pub returns : goal.returns
returns c = search parts.component-named
