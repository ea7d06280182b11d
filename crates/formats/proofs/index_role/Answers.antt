-- `formats::index_role` meets its contract: what `role_of` finds, and whether it is plain. Assumes nothing.
use Rattle.formats.proofs.Rules as laws
use Rattle.formats.proofs.index_role.Goals as goal

pub returns-in_default : goal.returns-in_default
returns-in_default c = search laws.index-absent

pub returns-then-found-ne1 : goal.returns-then-found-ne1
returns-then-found-ne1 c = search laws.index-odd

pub returns : goal.returns
returns c = search laws.index-plain
