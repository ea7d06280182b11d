-- `merger::checks::attributes` meets its contract: the first's if it has any, else the second's.
use Rattle.merger.proofs.BeforeRoom as checking
use Rattle.merger.proofs.checks.attributes.Goals as goal

pub returns-then-absent : goal.returns-then-absent
returns-then-absent c = search checking.attributes-second

pub returns : goal.returns
returns c = search checking.attributes-first
