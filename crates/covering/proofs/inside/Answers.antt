-- `covering::inside` meets its contract: ranges in order, swept. Assumes nothing.
use Rattle.covering.proofs.Pivot as parting
use borrow.Author.Rules.{rules}
use Rattle.covering.proofs.inside.Goals as goal

pub order-requires : goal.order-requires
order-requires c = search (rules, parting.none_below)

pub sweep-requires : goal.sweep-requires
sweep-requires c = search (parting.whole-ranges, parting.sweep-fits)

pub returns : goal.returns
returns c = search parting.sweep-is
