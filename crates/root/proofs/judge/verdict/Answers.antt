-- `root::judge::verdict` meets its contract: a law for each branch.
use Rattle.numbers.proofs.PassedOn.{passed-on}
use Rattle.root.proofs.Verdicts as verdicts
use Rattle.root.proofs.judge.verdict.Goals as goal

pub returns-in_err-known : goal.returns-in_err-known
returns-in_err-known c = let e = passed-on {r = c.from_residual.result} {e = record { refusal = c.in_err-known.field-0.0; object = 0; component = 0 }} c.from_residual.ensures in search (verdicts.refused, c.in_err-known.was)

pub returns-in_err-version_at : goal.returns-in_err-version_at
returns-in_err-version_at c = let e = passed-on {r = c.from_residual-in_err-version_at.result} {e = record { refusal = c.in_err-version_at.field-0.0; object = 0; component = 0 }} c.from_residual-in_err-version_at.ensures in search (verdicts.version-refused, c.in_ok-known.was, c.in_err-version_at.was)

pub returns : goal.returns
returns c = search (verdicts.as-told, c.in_ok-known.was, c.in_ok-version_at.was)
