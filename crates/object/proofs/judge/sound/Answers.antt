-- `object::judge::sound` meets its contract: a law for each branch.
use Rattle.numbers.proofs.PassedOn.{passed-on}
use Rattle.object.proofs.Sound as sound
use Rattle.object.proofs.LateRows as rows
use Rattle.object.proofs.Dimensions as dims
use Rattle.object.proofs.judge.sound.Goals as goal

pub returns-in_err-d : goal.returns-in_err-d
returns-in_err-d c = let e = passed-on {r = c.from_residual.result} {e = record { refusal = c.in_err-d.field-0.0; component = 0 }} c.from_residual.ensures in search (sound.no-tensor, rows.refused-put, c.in_err-d.was)

pub returns : goal.returns
returns c = search (sound.as-shaped, rows.sound-put, dims.dimensions-whole, c.in_ok-d.was)
