-- `formats::judge` meets its contract: the code tells the format's name, by the law `rules-by-code`. Assumes nothing.
use Rattle.formats.proofs.Rules as laws
use Rattle.formats.proofs.judge.Goals as goal

pub returns-in-0 : goal.returns-in-0
returns-in-0 c = search laws.as-dense

pub returns-in-1 : goal.returns-in-1
returns-in-1 c = search laws.as-csr

pub returns-in-2 : goal.returns-in-2
returns-in-2 c = search laws.as-coo

pub returns-in-3 : goal.returns-in-3
returns-in-3 c = search laws.as-group

pub returns-in_default : goal.returns-in_default
returns-in_default c = search laws.other-code
