-- `foresee::texts::component` meets its contract: a law for each branch.
use Rattle.numbers.proofs.PassedOn.{passed-on}
use Rattle.foresee.proofs.TextLaws as law
use Rattle.foresee.proofs.texts.component.Goals as goal

pub returns-in_err-logical : goal.returns-in_err-logical
returns-in_err-logical c = let e = passed-on {r = c.from_residual.result} {e = c.in_err-logical.field-0.0} c.from_residual.ensures in search (law.wrong_type, c.in_err-logical.was)

pub returns : goal.returns
returns c = search (law.then-digest, c.in_ok-logical.was)
