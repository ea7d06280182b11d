-- `objects::keep` meets its contract: a law for each branch.
use Rattle.numbers.proofs.PassedOn.{passed-on}
use Rattle.objects.proofs.FirstFault as keeping
use Rattle.objects.proofs.keep.Goals as goal
use Rattle.objects.proofs.keep.Goals as goal

pub returns-in_err-total : goal.returns-in_err-total
returns-in_err-total c = let e = passed-on {r = c.from_residual.result} {e = c.in_err-total.field-0.0} c.from_residual.ensures in search (keeping.stays, c.in_err-total.was)

pub returns-in-Err : goal.returns-in-Err
returns-in-Err c = search (keeping.begins, c.in_ok-total.was)

pub returns-in-Ok : goal.returns-in-Ok
returns-in-Ok c = search (keeping.goes_on, c.in_ok-total.was)
