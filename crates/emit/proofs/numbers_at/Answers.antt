-- `emit::numbers_at` meets its contract: the invariant says what is laid and what is still to be. Assumes nothing.
use Rattle.emit.proofs.LaidPieces as laying
use Rattle.emit.proofs.numbers_at.Goals as goal

pub loop-n-init : goal.loop-n-init
loop-n-init c = search laying.no-numbers

pub number_at-past-requires : goal.number_at-past-requires
number_at-past-requires c = search laying.room-for-number

pub loop-n-preserved : goal.loop-n-preserved
loop-n-preserved c = search laying.one_number

pub shape_of-out : goal.shape_of-out
shape_of-out c = search laying.numbers-as-long

pub returns : goal.returns
returns c = search laying.all-numbers
