-- `plan::apart` meets its contract.
use borrow.Author.Rules.{rules}
use Rattle.meaning.specs.Plan.{apart}
use Rattle.plan.proofs.apart.Goals as goal

pub returns-then-offset-size : goal.returns-then-offset-size
unfolding apart
returns-then-offset-size c = search rules

pub returns-else-offset-size : goal.returns-else-offset-size
unfolding apart
returns-else-offset-size c = search rules
