-- `formats::has_role` meets its contract: what `role_of` finds. Assumes nothing.
use Rattle.formats.proofs.Rules as laws
use Rattle.formats.proofs.has_role.Goals as goal

pub returns : goal.returns
returns c = search laws.there-or-not
