-- `sharing::layout_number` meets its contract. Assumes nothing.
use Rattle.sharing.proofs.Loads.{layout-one, layout-other}
use Rattle.sharing.proofs.layout_number.Goals as goal

pub returns-then-layout-eq1 : goal.returns-then-layout-eq1
returns-then-layout-eq1 c = search layout-one

pub returns : goal.returns
returns c = search layout-other
