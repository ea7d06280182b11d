-- `sharing::nothing_held` meets its contract. Assumes nothing.
use Rattle.sharing.specs.EngineAnswers.{held_with}
use borrow.Author.Rules.{rules}
use Rattle.sharing.proofs.nothing_held.Goals as goal

pub returns : goal.returns
unfolding held_with
returns c = search rules
