-- `emit::front::little` meets its contract: the invariant says how many bytes stand. Assumes nothing.
use Rattle.emit.proofs.Numbers as numbers
use Rattle.emit.proofs.LaidPieces as laying
use Rattle.emit.proofs.front.little.Goals as goal

pub loop-i-init : goal.loop-i-init
loop-i-init c = search numbers.little-none

pub loop-i-preserved : goal.loop-i-preserved
loop-i-preserved c = search numbers.little-more

pub returns : goal.returns
returns c = search laying.all-filled
