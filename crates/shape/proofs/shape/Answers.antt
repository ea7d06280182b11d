-- `shape::shape` meets its contract: a law for each way through the loop, and for each end.
use Rattle.shape.proofs.Elements as elements
use Prim.Native.Nat.{◌-◌}
use Rattle.shape.proofs.shape.Goals as goal

pub returns-in_default : goal.returns-in_default
returns-in_default c = search elements.no-list

pub loop-n-init : goal.loop-n-init
loop-n-init c = search elements.begins

pub returns-in_default-number : goal.returns-in_default-number
returns-in_default-number c = search elements.no_number

pub returns-then-s-at : goal.returns-then-s-at
returns-then-s-at c = search elements.no_end

pub loop-n-smaller : goal.loop-n-smaller
loop-n-smaller c = search elements.fewer-left

pub loop-n-preserved : goal.loop-n-preserved
loop-n-preserved c = search elements.goes_on

pub returns-then-rank-gt-RANK_MOST : goal.returns-then-rank-gt-RANK_MOST
returns-then-rank-gt-RANK_MOST c = search elements.many-dimensions

pub returns : goal.returns
returns c = search elements.dimensions-are
