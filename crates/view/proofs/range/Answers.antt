-- `view::range` meets its contract: a law for each branch. Assumes nothing.
use Rattle.view.proofs.Extents as extents
use Rattle.view.proofs.range.Goals as goal

pub overflow_add-at : goal.overflow_add-at
overflow_add-at c = search (extents.number_fits, extents.offset-inside)

pub offset_bounds-table-at : goal.offset_bounds-table-at
offset_bounds-table-at c = search (extents.bytes_fit, extents.offset-inside)

pub bounds-table-at : goal.bounds-table-at
bounds-table-at c = search extents.offset-inside

pub overflow_add-at-in-Some : goal.overflow_add-at-in-Some
overflow_add-at-in-Some c = search (extents.number_fits, extents.length-inside)

pub offset_bounds-table-at-in-Some : goal.offset_bounds-table-at-in-Some
offset_bounds-table-at-in-Some c = search (extents.bytes_fit, extents.length-inside)

pub bounds-table-at-in-Some : goal.bounds-table-at-in-Some
bounds-table-at-in-Some c = search extents.length-inside

pub returns-in-None : goal.returns-in-None
returns-in-None c = search extents.no-row-told

pub returns-in-Some : goal.returns-in-Some
returns-in-Some c = search extents.row_told
