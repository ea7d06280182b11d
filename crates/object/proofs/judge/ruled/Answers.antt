-- `object::judge::ruled` meets its contract: a law for each branch.
use Rattle.numbers.proofs.PassedOn.{passed-on}
use Rattle.object.proofs.Pieces as pieces
use Rattle.object.proofs.judge.ruled.Goals as goal

pub returns-then-dims-rank : goal.returns-then-dims-rank
returns-then-dims-rank c = search pieces.no-such-rank

pub returns-then-m-gt16 : goal.returns-then-m-gt16
returns-then-m-gt16 c = search pieces.no-such-count

pub returns-in_err-judge : goal.returns-in_err-judge
returns-in_err-judge c = let e = passed-on {r = c.from_residual.result} {e = c.in_err-judge.field-0.0} c.from_residual.ensures in search (pieces.rules-broken, c.in_err-judge.was)

pub returns : goal.returns
returns c = search (pieces.rules-kept, c.in_ok-judge.was)
