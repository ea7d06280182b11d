-- `foresee::texts::digest` meets its contract: a law for each branch.
use Rattle.foresee.proofs.TextLaws as law
use Rattle.foresee.proofs.texts.digest.Goals as goal

pub returns-then-absent : goal.returns-then-absent
returns-then-absent c = search law.text-none

pub returns-then-utf8 : goal.returns-then-utf8
returns-then-utf8 c = search law.text-fine

pub returns : goal.returns
returns c = search law.text-odd
