-- `badparts::to_blame` meets its contract: a law for each branch.
use Rattle.badparts.proofs.Whole as whole
use Rattle.badparts.proofs.to_blame.Goals as goal

pub returns-then-m-gt16 : goal.returns-then-m-gt16
returns-then-m-gt16 c = search whole.too_many

pub returns-in-Err : goal.returns-in-Err
returns-in-Err c = search whole.none_found

pub returns-else-m-gt16 : goal.returns-else-m-gt16
returns-else-m-gt16 c = search whole.by_rows
