-- `formats::role_of` meets its contract: so many components are passed, none with the role, and the rest of the rows are those of the rest of the components. Assumes nothing.
use Rattle.formats.proofs.Roles as laws
use Rattle.formats.proofs.role_of.Goals as goal

pub loop-at-init : goal.loop-at-init
loop-at-init c = search laws.seeking-starts

pub returns-then-parts-at : goal.returns-then-parts-at
returns-then-parts-at c = search laws.role-here

pub loop-at-preserved : goal.loop-at-preserved
loop-at-preserved c = search laws.role-later

pub returns : goal.returns
returns c = search laws.role-none
