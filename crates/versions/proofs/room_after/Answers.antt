-- `text::version::room_after` meets its contract. Assumes nothing.
use Rattle.versions.proofs.VersionSteps as steps
use Rattle.versions.proofs.room_after.Goals as goal

pub returns-then-room-ne9 : goal.returns-then-room-ne9
returns-then-room-ne9 c = search steps.one_less

pub returns-then-b-eq-ZERO : goal.returns-then-b-eq-ZERO
returns-then-b-eq-ZERO c = search steps.none_left

pub returns : goal.returns
returns c = search steps.eight-left
