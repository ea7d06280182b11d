-- `badnames::noted` meets its contract: a law for each branch.
use Rattle.badnames.proofs.Untested as untested
use Rattle.badnames.proofs.noted.Goals as goal

pub returns-then-tested : goal.returns-then-tested
returns-then-tested c = search untested.by-test

pub returns : goal.returns
returns c = search untested.untested
