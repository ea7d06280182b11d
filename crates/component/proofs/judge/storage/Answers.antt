-- `component::judge::storage` meets its contract: a law for each branch.
use Rattle.numbers.proofs.PassedOn.{passed-on}
use Rattle.component.proofs.Pieces as pieces
use Rattle.component.proofs.judge.storage.Goals as goal

pub returns-in_err-code : goal.returns-in_err-code
returns-in_err-code c = let e = passed-on {r = c.from_residual.result} {e = c.in_err-code.field-0.0} c.from_residual.ensures in search (pieces.no-dtype, c.in_err-code.was)

pub returns-in_err-kind : goal.returns-in_err-kind
returns-in_err-kind c = let e = passed-on {r = c.from_residual-in_err-kind.result} {e = c.in_err-kind.field-0.0} c.from_residual-in_err-kind.ensures in search (pieces.no-type, c.in_ok-code.was, c.in_err-kind.was)

pub returns : goal.returns
returns c = search (pieces.both-types, c.in_ok-code.was, c.in_ok-kind.was)
