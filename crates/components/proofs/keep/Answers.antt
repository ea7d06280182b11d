-- `components::keep` meets its contract: a law for each branch.
use Rattle.numbers.proofs.PassedOn.{passed-on}
use Rattle.components.proofs.Rows as rows
use Rattle.components.proofs.Kept as kept
use Rattle.components.proofs.keep.Goals as goal

pub returns-in_err-first : goal.returns-in_err-first
returns-in_err-first c = let e = passed-on {r = c.from_residual.result} {e = c.in_err-first.field-0.0} c.from_residual.ensures in search (kept.stays, c.in_err-first.was)

pub returns-in-Err : goal.returns-in-Err
returns-in-Err c = search (kept.begins, c.in_ok-first.was)

pub returns-in-Ok : goal.returns-in-Ok
returns-in-Ok c = (search rows.rows-room, search (kept.row_kept, c.in_ok-first.was))
