-- `sizes::placing::offset_at` meets its contract.
use borrow.Author.Rules.{rules}
use borrow.Author.Tests.{tests, eqb-true}
use mathlib.Core.Path.{sym, ◌∙◌}
use Rattle.sizes.proofs.PlanOrNone as law
use Rattle.sizes.proofs.placing.offset_at.Goals as goal

pub aligned-requires : goal.aligned-requires
aligned-requires c = law.place-low c.args.plan.now (eqb-true _ _ (sym c.is_empty.ensures ∙ c.if-is_empty.true)) c.requires

pub returns-then-is_empty : goal.returns-then-is_empty
returns-then-is_empty c = search (rules, tests, law.by-rule)

pub returns : goal.returns
returns c = search (rules, tests, law.by-plan)
