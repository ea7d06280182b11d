-- `plan::follows` meets its contract.
use mathlib.Core.Path.{sym, ◌∙◌}
use borrow.Author.Rules.{rules}
use Rattle.plan.proofs.Tests as tests
use Rattle.plan.proofs.follows.Goals as goal

pub apart_from-requires-clause-size_bound : goal.apart_from-requires-clause-size_bound
apart_from-requires-clause-size_bound c = tests.end_low c.requires (sym c.allowed.ensures ∙ c.if-allowed.true)

pub returns-then-end-offset : goal.returns-then-end-offset
returns-then-end-offset c = let h = tests.past_all c.requires (sym c.allowed.ensures ∙ c.if-allowed.true) c.if-end-offset.true in search (rules, h)
