-- `badparts::within` meets its contract: a law for each branch.
use Rattle.spot.proofs.Told.{odd, sound, told-as}
use Rattle.badparts.proofs.Whole as whole
use Rattle.badparts.proofs.within.Goals as goal

pub returns-in-Err : goal.returns-in-Err
returns-in-Err c = let o = odd c.in-Err.is in let s = told-as c.in-Err.is in search (whole.odd-names, o, s)

pub returns-then-n-eq-RANK : goal.returns-then-n-eq-RANK
returns-then-n-eq-RANK c = let z = sound c.in-Ok.is in search (whole.by-rank, z)

pub returns-then-n-eq-ROLE : goal.returns-then-n-eq-ROLE
returns-then-n-eq-ROLE c = let z = sound c.in-Ok.is in search (whole.by-role, z)

pub returns-then-n-eq-LENGTH : goal.returns-then-n-eq-LENGTH
returns-then-n-eq-LENGTH c = let z = sound c.in-Ok.is in search (whole.by-length, z)

pub returns-else-n-eq-LENGTH : goal.returns-else-n-eq-LENGTH
returns-else-n-eq-LENGTH c = let z = sound c.in-Ok.is in search (whole.in-component, z)
