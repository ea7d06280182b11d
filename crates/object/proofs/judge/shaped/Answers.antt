-- `object::judge::shaped` meets its contract: a law for each branch.
use Rattle.numbers.proofs.PassedOn.{passed-on}
use Rattle.object.proofs.Sound as sound
use Rattle.object.proofs.LateRows as rows
use Rattle.object.proofs.Dimensions as dims
use Rattle.object.proofs.judge.shaped.Goals as goal

pub returns-in_err-rank : goal.returns-in_err-rank
returns-in_err-rank c = let e = passed-on {r = c.from_residual.result} {e = record { refusal = c.in_err-rank.field-0.0; component = 0 }} c.from_residual.ensures in search (sound.no-shape, rows.refused-put, c.in_err-rank.was)

pub returns-in_err-code : goal.returns-in_err-code
returns-in_err-code c = let e = passed-on {r = c.from_residual-in_err-code.result} {e = record { refusal = c.in_err-code.field-0.0; component = 0 }} c.from_residual-in_err-code.ensures in search (sound.no-description, rows.refused-put, c.in_ok-rank.was, c.in_err-code.was)

pub returns-in_err-m : goal.returns-in_err-m
returns-in_err-m c = let e = passed-on {r = c.from_residual-in_err-m.result} {e = c.in_err-m.field-0.0} c.from_residual-in_err-m.ensures in search (sound.no-components, rows.refused-put, c.in_ok-rank.was, c.in_ok-code.was, c.in_err-m.was)

pub returns : goal.returns
returns c = search (sound.by-rules, rows.shaped-put, dims.dimensions-there, c.in_ok-rank.was, c.in_ok-code.was, c.in_ok-m.was)
