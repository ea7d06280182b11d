-- `decimal::digits::fives` meets its contract: each product fits. Assumes nothing.
use Rattle.decimal.proofs.Powers as powers
use borrow.Author.Rules.{rules}
use Rattle.decimal.proofs.digits.fives.Goals as goal

pub times-requires : goal.times-requires
times-requires c = search (rules, powers.first_fits)

pub times-requires-2 : goal.times-requires-2
times-requires-2 c = search (rules, powers.second_fits)

pub times-requires-3 : goal.times-requires-3
times-requires-3 c = search (rules, powers.third-fits)

pub times-requires-4 : goal.times-requires-4
times-requires-4 c = search (rules, powers.fourth-fits)

pub times-requires-5 : goal.times-requires-5
times-requires-5 c = search (rules, powers.last_fits)

pub returns : goal.returns
returns c = (c.times-5.ensures.0, powers.all-fives _ c.times.ensures.1 c.times-2.ensures.1 c.times-3.ensures.1 c.times-4.ensures.1 c.times-5.ensures.1)
