-- `apart::of_bytes` meets its contract, whichever is the shorter one.
use Rattle.apart.proofs.Counts as counting
use Rattle.apart.proofs.of_bytes.Goals as goal

pub compared-requires : goal.compared-requires
compared-requires c = search counting.rest-first

pub returns-then-x-y : goal.returns-then-x-y
returns-then-x-y c = c.compared.ensures

pub compared-requires-2 : goal.compared-requires-2
compared-requires-2 c = search counting.rest-second

pub returns : goal.returns
returns c = c.compared-2.ensures
