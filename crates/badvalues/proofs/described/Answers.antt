-- `badvalues::described` meets its contract: a law for each branch.
use Rattle.badvalues.proofs.Branches as branches
use Rattle.badvalues.proofs.described.Goals as goal

pub returns-then-attributes : goal.returns-then-attributes
returns-then-attributes c = search branches.all-described

pub returns-in-Err : goal.returns-in-Err
returns-in-Err c = search branches.no-format

pub returns-else-attributes : goal.returns-else-attributes
returns-else-attributes c = search branches.no-attributes
