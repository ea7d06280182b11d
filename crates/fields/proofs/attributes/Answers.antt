-- `fields::attributes` meets its contract: a law for each branch.
use Rattle.fields.proofs.AttributesAt as is
use Rattle.fields.proofs.attributes.Goals as goal

pub returns-then-left-eq0 : goal.returns-then-left-eq0
returns-then-left-eq0 c = is.absent c.args.s.now c.args.left c.if-left-eq0.true

pub returns : goal.returns
returns c = search is.told
