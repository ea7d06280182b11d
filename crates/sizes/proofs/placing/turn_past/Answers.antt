-- `sizes::placing::turn_past` meets its contract.
use borrow.Author.Rules.{rules}
use borrow.Author.Tests.{tests}
use Rattle.sizes.proofs.PlanOrNone as law
use Rattle.sizes.proofs.placing.turn_past.Goals as goal

pub end-requires-clause-start_le_end_limit : goal.end-requires-clause-start_le_end_limit
end-requires-clause-start_le_end_limit c = search (rules, tests, law.starts-low)

pub returns-then-is_empty : goal.returns-then-is_empty
returns-then-is_empty c = search (rules, tests, law.ends_there)

pub overflow_add-result : goal.overflow_add-result
overflow_add-result c = search (rules, tests, law.turns_fit)

pub returns : goal.returns
returns c = search (rules, tests, law.turns-are)
