-- `badroot::later` meets its contract: a law for each branch.
use Rattle.badroot.proofs.Valued as valued
use borrow.Author.Tests.{not-true, not-false}
use Rattle.badroot.proofs.later.Goals as goal

pub returns-then-not-attributes : goal.returns-then-not-attributes
returns-then-not-attributes c = search (valued.no-map, not-true)

pub returns-then-p-eq0 : goal.returns-then-p-eq0
returns-then-p-eq0 c = search (valued.no-objects, not-false)

pub returns : goal.returns
returns c = search (valued.objects-named, not-false)
