-- `component::judge::judge_place` meets its contract: a law for each branch.
use Rattle.numbers.proofs.PassedOn.{passed-on}
use Rattle.component.proofs.Pieces as pieces
use Rattle.component.proofs.judge.judge_place.Goals as goal

pub returns-in_err-place : goal.returns-in_err-place
returns-in_err-place c = let e = passed-on {r = c.from_residual.result} {e = c.in_err-place.field-0.0} c.from_residual.ensures in search (pieces.out-of-place, c.in_err-place.was)

pub returns : goal.returns
returns c = search (pieces.in_place, c.in_ok-place.was)
