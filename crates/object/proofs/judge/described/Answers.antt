-- `object::judge::described` meets its contract: a law for each branch.
use Rattle.numbers.proofs.PassedOn.{passed-on}
use Rattle.object.proofs.Pieces as pieces
use Rattle.object.proofs.judge.described.Goals as goal

pub returns-in_err-code : goal.returns-in_err-code
returns-in_err-code c = let e = passed-on {r = c.from_residual.result} {e = c.in_err-code.field-0.0} c.from_residual.ensures in search (pieces.no-format, c.in_err-code.was)

pub returns-then-attributes : goal.returns-then-attributes
returns-then-attributes c = search (pieces.both-there, c.in_ok-code.was)

pub returns : goal.returns
returns c = search (pieces.no-attributes, c.in_ok-code.was)
