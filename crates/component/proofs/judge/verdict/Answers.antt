-- `component::judge::verdict` meets its contract: a law for each branch.
use Rattle.numbers.proofs.PassedOn.{passed-on}
use Rattle.component.proofs.Verdicts as verdicts
use Rattle.component.proofs.judge.verdict.Goals as goal

pub returns-in_err-known : goal.returns-in_err-known
returns-in_err-known c = let e = passed-on {r = c.from_residual.result} {e = c.in_err-known.field-0.0} c.from_residual.ensures in search (verdicts.refused, c.in_err-known.was)

pub returns : goal.returns
returns c = search (verdicts.as-sound, c.in_ok-known.was)
