-- `types::row::few` meets its contract: a law for each branch.
use Rattle.types.proofs.Tagged as laws
use borrow.Author.Rules.{rules}
use Rattle.types.proofs.row.few.Goals as goal

pub returns-then-n-eq0 : goal.returns-then-n-eq0
returns-then-n-eq0 c = search (rules, laws.tagged-none)

pub returns-then-n-eq1 : goal.returns-then-n-eq1
returns-then-n-eq1 c = search (rules, laws.one-makes)

pub returns-then-n-eq2 : goal.returns-then-n-eq2
returns-then-n-eq2 c = search (rules, laws.two-make)

pub returns : goal.returns
returns c = search (rules, laws.three-make)
