-- `foresee::judge` meets its contract: a law for each branch.
use Rattle.numbers.proofs.PassedOn.{passed-on}
use Rattle.foresee.proofs.Objects as law
use Rattle.foresee.proofs.judge.Goals as goal

pub returns-in_err-names : goal.returns-in_err-names
returns-in_err-names c = let e = passed-on {r = c.from_residual.result} {e = record { refusal = c.in_err-names.field-0.0; object = 0; component = 0 }} c.from_residual.ensures in search (law.odd-objects, c.in_err-names.was)

pub returns : goal.returns
returns c = search (law.by-objects, c.in_ok-names.was)
