-- `account::gather` meets its contract: the invariant says which ranges stand at the front, and that the rows to come are as they were. Assumes nothing.
use Rattle.account.proofs.Ranges as gathering
use Rattle.account.proofs.gather.Goals as goal

pub loop-i-init : goal.loop-i-init
loop-i-init c = search gathering.gathering-first

pub overflow_mul-row : goal.overflow_mul-row
overflow_mul-row c = search gathering.rows_fit

pub overflow_add-row : goal.overflow_add-row
overflow_add-row c = search gathering.row_fits

pub overflow_add-begins : goal.overflow_add-begins
overflow_add-begins c = search gathering.offset-fits

pub offset_bounds-table-row : goal.offset_bounds-table-row
offset_bounds-table-row c = search gathering.offset-scaled

pub bounds-table-row : goal.bounds-table-row
bounds-table-row c = search gathering.offset-lies

pub overflow_add-past : goal.overflow_add-past
overflow_add-past c = search gathering.length-fits

pub offset_bounds-table-row-in-loop-i : goal.offset_bounds-table-row-in-loop-i
offset_bounds-table-row-in-loop-i c = search gathering.length-scaled

pub bounds-table-row-in-loop-i : goal.bounds-table-row-in-loop-i
bounds-table-row-in-loop-i c = search gathering.length-lies

pub overflow_add-past-in-loop-i : goal.overflow_add-past-in-loop-i
overflow_add-past-in-loop-i c = search gathering.past_fits

pub overflow_mul-i : goal.overflow_mul-i
overflow_mul-i c = search gathering.range-fits

pub put-requires : goal.put-requires
put-requires c = search gathering.range-lies

pub loop-i-preserved : goal.loop-i-preserved
loop-i-preserved c = search gathering.gathering-next

pub returns : goal.returns
returns c = search gathering.gathering-done
