-- `foresee::texts::logical` meets its contract: a law for each branch.
use Rattle.foresee.proofs.TextLaws as law
use Rattle.foresee.proofs.texts.logical.Goals as goal

pub returns-then-absent : goal.returns-then-absent
returns-then-absent c = search law.type-none

pub returns-then-not-utf8 : goal.returns-then-not-utf8
returns-then-not-utf8 c = search law.type-odd

pub returns-then-type_fits : goal.returns-then-type_fits
returns-then-type_fits c = search law.type-fits

pub returns : goal.returns
returns c = search law.type-unfit
