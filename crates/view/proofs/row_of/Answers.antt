-- `view::row_of` meets its contract: a law for each branch. Assumes nothing.
use Rattle.view.proofs.Extents as extents
use Rattle.view.proofs.row_of.Goals as goal
use Rattle.view.proofs.row_of.Goals.{then-components-index-via-then-components-index, then-components-index-via-else-components-index+then-room-objects}

pub returns-then-components-index : goal.returns-then-components-index
returns-then-components-index c =
    elim c.then-components-index.branch [
      | then-components-index-via-then-components-index w ↦ search extents.not-counted
      | then-components-index-via-else-components-index+then-room-objects w ↦ search extents.objects-past
    ]

pub returns-then-room-first : goal.returns-then-room-first
returns-then-room-first c = search extents.row-past

pub returns : goal.returns
returns c = search extents.row_lies
