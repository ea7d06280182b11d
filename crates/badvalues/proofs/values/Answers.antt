-- `badvalues::values` meets its contract: a law for each branch.
use Rattle.badvalues.proofs.Branches as branches
use Rattle.numbers.proofs.PassedOn.{passed-on}
use Rattle.spot.proofs.Told.{odd, sound, told-as}
use Rattle.badvalues.proofs.values.Goals as goal

pub returns-in_err-shape-in-Ok : goal.returns-in_err-shape-in-Ok
returns-in_err-shape-in-Ok c =
    let was = c.in_err-shape-in-Ok.was in
    let e = passed-on {r = c.from_residual.result} {e = c.in_err-shape-in-Ok.field-0.0} c.from_residual.ensures in
    let o = odd was in
    let s = told-as was in
    search (branches.odd_shape, o, s, e)

pub returns-in-Err : goal.returns-in-Err
returns-in-Err c = search branches.no-dtype

pub returns-in_ok-shape-in-Ok : goal.returns-in_ok-shape-in-Ok
returns-in_ok-shape-in-Ok c = let s = sound c.in_ok-shape-in-Ok.was in search (branches.then-described, s)
