-- `object::judge::lacks_dtype` meets its contract: a law for each branch.
use Rattle.object.proofs.Verdicts as verdicts
use Rattle.object.proofs.judge.lacks_dtype.Goals as goal

pub returns-then-layout-eq1 : goal.returns-then-layout-eq1
returns-then-layout-eq1 c = verdicts.lacks-if _ _ c.if-layout-eq1.true

pub returns : goal.returns
returns c = verdicts.lacks-none _ _ c.if-layout-eq1.false
