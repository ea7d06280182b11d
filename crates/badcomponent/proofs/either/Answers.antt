-- `badcomponent::either` meets its contract: a law for each branch.
use Rattle.badcomponent.proofs.Storage as storage
use Rattle.badcomponent.proofs.either.Goals as goal

pub returns-then-left-eq0 : goal.returns-then-left-eq0
returns-then-left-eq0 c = search storage.none-there

pub returns : goal.returns
returns c = search storage.one-there
