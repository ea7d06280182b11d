-- `emit::front::big` meets its contract: the invariant says how many bytes stand. Assumes nothing.
use Rattle.emit.proofs.Numbers as numbers
use Rattle.emit.proofs.front.big.Goals as goal

pub loop-i-init : goal.loop-i-init
loop-i-init c = search numbers.big-none

pub loop-i-preserved : goal.loop-i-preserved
loop-i-preserved c = search numbers.big-more

pub returns : goal.returns
returns c = search numbers.big_all
