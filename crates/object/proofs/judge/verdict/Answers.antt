-- `object::judge::verdict` meets its contract: a law for each branch.
use Rattle.numbers.proofs.PassedOn.{passed-on}
use Rattle.object.proofs.Verdicts as verdicts
use Rattle.object.proofs.LateRows as rows
use Rattle.object.proofs.Dimensions as dims
use Rattle.object.proofs.judge.verdict.Goals as goal

pub returns-in_err-known : goal.returns-in_err-known
returns-in_err-known c = let e = passed-on {r = c.from_residual.result} {e = record { refusal = c.in_err-known.field-0.0; component = 0 }} c.from_residual.ensures in search (verdicts.refused, rows.refused-put, c.in_err-known.was)

pub returns : goal.returns
returns c = search (verdicts.as-sound, rows.whole-put, dims.dimensions-whole, c.in_ok-known.was)
