-- `formats::quantized_group` meets its contract: the three roles in order. Assumes nothing.
use Rattle.formats.proofs.Rules as laws
use Rattle.formats.proofs.quantized_group.Goals as goal

pub returns-then-not-has_role : goal.returns-then-not-has_role
returns-then-not-has_role c = search laws.group-first

pub returns-then-not-has_role-2 : goal.returns-then-not-has_role-2
returns-then-not-has_role-2 c = search laws.group-second

pub returns-then-not-has_role-3 : goal.returns-then-not-has_role-3
returns-then-not-has_role-3 c = search laws.group-third

pub returns : goal.returns
returns c = search laws.group-right
