-- `rescuer::opening::names` meets its contract: a law for each way out.
use Rattle.numbers.proofs.PassedOn.{passed-on}
use Rattle.rescuer.proofs.FoundRoot as finding
use Rattle.rescuer.proofs.opening.names.Goals as goal

pub returns-then-m-e : goal.returns-then-m-e
returns-then-m-e c = search finding.malformed

pub returns-then-e-m : goal.returns-then-e-m
returns-then-e-m c = search finding.left_over

pub returns-in_err-judged : goal.returns-in_err-judged
returns-in_err-judged c = let e = passed-on {r = c.from_residual.result} {e = c.in_err-judged.field-0.0} c.from_residual.ensures in search (finding.names-refuse, c.in_err-judged.was)

pub returns : goal.returns
returns c = search (finding.names-pass, c.in_ok-judged.was)
