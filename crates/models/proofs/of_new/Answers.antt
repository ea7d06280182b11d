-- `models::of_new` meets its contract: a law for each branch.
use borrow.Author.Rules.{rules}
use Rattle.models.proofs.Numbered as objects
use Rattle.models.proofs.of_new.Goals as goal

pub returns-in-None : goal.returns-in-None
returns-in-None c = objects.second-only _ _ _ _ _ _ _ (rw c.args.second.now.from at c.name.ensures) c.in-None.ensures c.entry.ensures

pub returns-in-Some : goal.returns-in-Some
returns-in-Some c = objects.not_new _ _ _ _ _ _ _ (rw c.args.second.now.from at c.name.ensures) c.in-Some.ensures (search rules) c.capped_place.ensures
