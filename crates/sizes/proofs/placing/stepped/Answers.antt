-- `sizes::placing::stepped` meets its contract.
use borrow.Author.Rules.{rules}
use borrow.Author.Tests.{tests}
use Rattle.sizes.proofs.PlanOrNone as law
use Rattle.sizes.proofs.placing.stepped.Goals as goal

pub aligned-requires : goal.aligned-requires
aligned-requires c = search (rules, tests, law.step-low)

pub overflow_add-result : goal.overflow_add-result
overflow_add-result c = search (rules, tests, law.step_fits)

pub returns-then-is_empty : goal.returns-then-is_empty
returns-then-is_empty c = search (rules, tests, law.steps-to)

pub overflow_add-result-2 : goal.overflow_add-result-2
overflow_add-result-2 c = search (rules, tests, law.turn-fits)

pub returns : goal.returns
returns c = search (rules, tests, law.one-more-turn)
