-- `component::judge::extras` meets its contract: a law for each branch.
use Rattle.numbers.proofs.PassedOn.{passed-on}
use Rattle.component.proofs.Pieces as pieces
use Rattle.component.proofs.judge.extras.Goals as goal

pub returns-in_err-unpacked : goal.returns-in_err-unpacked
returns-in_err-unpacked c = let e = passed-on {r = c.from_residual.result} {e = c.in_err-unpacked.field-0.0} c.from_residual.ensures in search (pieces.no-unpacked, c.in_err-unpacked.was)

pub returns-in_err-encoded : goal.returns-in_err-encoded
returns-in_err-encoded c = let e = passed-on {r = c.from_residual-in_err-encoded.result} {e = c.in_err-encoded.field-0.0} c.from_residual-in_err-encoded.ensures in search (pieces.no-encoding, c.in_ok-unpacked.was, c.in_err-encoded.was)

pub returns : goal.returns
returns c = search (pieces.then-digest, c.in_ok-unpacked.was, c.in_ok-encoded.was)
