-- `object::own` meets its contract: a law for each branch.
use Rattle.numbers.proofs.PassedOn.{passed-on}
use Rattle.object.proofs.WholeObject as whole
use Rattle.object.proofs.own.Goals as goal

pub returns-in_err-count : goal.returns-in_err-count
returns-in_err-count c = let e = passed-on {r = c.from_residual.result} {e = c.in_err-count.field-0.0} c.from_residual.ensures in search (whole.refused-still, whole.own-not, c.in_err-count.was)

pub returns : goal.returns
returns c = search (whole.passed-still, whole.own_put, c.in_ok-count.was)
