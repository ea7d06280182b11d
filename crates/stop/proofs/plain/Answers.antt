-- `stop::plain` meets its contract: whether the item is refused `skip` tells, and where `at_plain`.
use Rattle.stop.proofs.Held as items
use Rattle.stop.proofs.plain.Goals as goal

pub returns-then-s-r : goal.returns-then-s-r
returns-then-s-r c = search items.skip-stops

pub returns : goal.returns
returns c = search items.skip-passes
