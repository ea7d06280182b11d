-- `differing::of_objects` meets its contract.
use Rattle.differing.proofs.Columns as columns
use Rattle.differing.proofs.of_objects.Goals as goal

pub returns : goal.returns
returns c = (
  columns.own_is c.shape.ensures c.shape-2.ensures c.ne-shapes.ensures c.format.ensures c.format-2.ensures c.same-formats.ensures c.flag.ensures c.flag-2.ensures,
  columns.own-small _ _ c.flag.ensures c.flag-2.ensures,
)
