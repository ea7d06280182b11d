-- `plan::allowed` meets its contract.
use borrow.Author.Rules.{rules}
use Rattle.meaning.specs.Plan.{allowed}
use Rattle.plan.proofs.allowed.Goals as goal

pub returns-then-offset-ceiling : goal.returns-then-offset-ceiling
unfolding allowed
returns-then-offset-ceiling c = search rules

pub returns-else-offset-ceiling : goal.returns-else-offset-ceiling
unfolding allowed
returns-else-offset-ceiling c = search rules
