-- `decimal::digits::twos` meets its contract: both invariants keep the value times the power that is left. Assumes nothing.
use Rattle.decimal.proofs.Powers as powers
use borrow.Author.Rules.{rules}
use Rattle.decimal.proofs.digits.twos.Goals as goal

pub loop-k-init : goal.loop-k-init
loop-k-init c = search powers.doubling-first

pub times-requires : goal.times-requires
times-requires c = search (rules, powers.sixteen-fit)

pub loop-k-preserved : goal.loop-k-preserved
loop-k-preserved c = search powers.sixteen-done

pub loop-k-2-init : goal.loop-k-2-init
loop-k-2-init c = search powers.doubling-first

pub times-requires-in-loop-k-2 : goal.times-requires-in-loop-k-2
times-requires-in-loop-k-2 c = search (rules, powers.one-fits)

pub loop-k-2-preserved : goal.loop-k-2-preserved
loop-k-2-preserved c = search powers.one-done

pub returns : goal.returns
returns c = search powers.doubling-done
