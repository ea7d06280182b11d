-- `finding::table::find_in` meets its contract: what the range's answer tells. Assumes nothing.
use Rattle.finding.proofs.Rows as rows
use native.Mathlib.Omega.{arith}
use Rattle.finding.proofs.table.find_in.Goals as goal

pub overflow_mul-row : goal.overflow_mul-row
overflow_mul-row c = omega (arith, rows.row_lies _ _ _ _ _ c.range-r.ensures c.if-r-eq0.true)

pub overflow_mul-row-then-r-eq0 : goal.overflow_mul-row-then-r-eq0
overflow_mul-row-then-r-eq0 c = omega (arith, rows.row_lies _ _ _ _ _ c.range-r.ensures c.if-r-eq0.true)

pub overflow_add-row : goal.overflow_add-row
overflow_add-row c = omega (arith, rows.row_lies _ _ _ _ _ c.range-r.ensures c.if-r-eq0.true)

pub at_row-s-requires : goal.at_row-s-requires
at_row-s-requires c = omega (arith, rows.row_lies _ _ _ _ _ c.range-r.ensures c.if-r-eq0.true)

pub returns-then-r-eq0 : goal.returns-then-r-eq0
returns-then-r-eq0 c = search rows.row-found

pub returns : goal.returns
returns c = search rows.none_found
