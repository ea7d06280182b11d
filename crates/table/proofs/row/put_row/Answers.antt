-- `table::row::put_row` meets its contract: a law for each branch.
use native.Mathlib.Omega.{arith}
use Rattle.table.proofs.ComponentRow as rows
use Rattle.table.proofs.row.put_row.Goals as goal

pub returns-then-t-i : goal.returns-then-t-i
returns-then-t-i c = search rows.row-beyond

pub returns-in_default : goal.returns-in_default
returns-in_default c = search rows.no_row

pub returns : goal.returns
returns c = let a = c.args in rows.a-row a.layout a.format a.s.now a.c.now a.v a.size a.end a.owner a.i a.t.now _ _ c.in-Ok.is _ _ _ _ c.text_span-name.ensures
    c.text_span_at-typed.ensures c.text_span_at-digested.ensures c.whole_from-entry.ensures _ c.storage-kept.ensures (omega (arith, c.type_inv)) c.put_twelve.ensures
