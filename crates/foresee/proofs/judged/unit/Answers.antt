-- `foresee::judged::unit` meets its contract: a law for each branch.
use Rattle.foresee.proofs.Parts as law
use Rattle.foresee.proofs.judged.unit.Goals as goal

pub returns-then-absent : goal.returns-then-absent
returns-then-absent c = search law.untyped-unit

pub returns : goal.returns
returns c = search law.typed-unit
