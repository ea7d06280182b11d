-- `sizes::placing::first_turn` meets its contract.
use borrow.Author.Rules.{rules}
use borrow.Author.Tests.{tests}
use Rattle.sizes.proofs.PlanOrNone as law
use Rattle.sizes.proofs.placing.first_turn.Goals as goal

pub returns-then-is_empty : goal.returns-then-is_empty
returns-then-is_empty c = search (rules, tests, law.begins-at-8)

pub returns-else-is_empty : goal.returns-else-is_empty
returns-else-is_empty c = search (rules, tests, law.begins-at-0)
