-- `object::judge::late` meets its contract: a law for each branch.
use Rattle.object.proofs.Sound as sound
use Rattle.object.proofs.LateRows as rows
use Rattle.object.proofs.judge.late.Goals as goal

pub returns-then-layout-eq1 : goal.returns-then-layout-eq1
returns-then-layout-eq1 c = search (sound.late-now, rows.waited-now)

pub returns : goal.returns
returns c = search (sound.as-found, rows.waited-not)
