-- `foresee::named::names` meets its contract: a law for each branch.
use Rattle.foresee.proofs.NamesNoted as law
use Rattle.foresee.proofs.named.names.Goals as goal

pub returns-then-not-note : goal.returns-then-not-note
returns-then-not-note c = search law.odd-names

pub returns-then-left-n : goal.returns-then-left-n
returns-then-left-n c = search law.too_many

pub returns-then-no_twice : goal.returns-then-no_twice
returns-then-no_twice c = search law.all_once

pub returns : goal.returns
returns c = search law.one-twice
