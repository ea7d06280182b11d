-- `object::place::legible` meets its contract: the known formats are UTF-8. Assumes nothing.
use Rattle.object.proofs.Places.{known-format}
use Rattle.object.proofs.place.legible.Goals as goal

pub returns-then-code-lt4 : goal.returns-then-code-lt4
returns-then-code-lt4 c = search known-format

pub returns : goal.returns
returns c = c.utf8-2.ensures
