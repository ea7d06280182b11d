-- `account::inside` meets its contract: the ranges that were gathered are lent. Assumes nothing.
use Rattle.account.proofs.AccountAnswer as answering
use Rattle.account.proofs.inside.Goals as goal

pub slice_bounds-inside-end-2 : goal.slice_bounds-inside-end-2
slice_bounds-inside-end-2 c = search answering.front_long

pub inside-requires : goal.inside-requires
inside-requires c = search (answering.front-begin, answering.front-end)

pub returns : goal.returns
returns c = search (answering.counted, answering.still-long)
