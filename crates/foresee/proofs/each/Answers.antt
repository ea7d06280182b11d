-- `foresee::each` meets its contract.
use Prim.Native.Nat.{◌+◌, ◌-◌, ◌*◌}
use lib.ListN.{get_or}
use Rattle.meaning.specs.Columns.{object_width, component_width, count_column}
use Rattle.rows.proofs.EachRow.{place-on}
use Rattle.foresee.proofs.Objects as law
use Rattle.foresee.proofs.each.Goals as goal

pub loop-i-init : goal.loop-i-init
loop-i-init c = law.objects-begin c.requires

pub object-requires : goal.object-requires
object-requires c = (law.row-lent c.loop-i.invariant c.loop-i-test.true, law.rank-small c.loop-i.invariant c.loop-i-test.true, law.rows-lent c.loop-i.invariant c.loop-i-test.true)

pub returns-in-Err : goal.returns-in-Err
returns-in-Err c = law.object-faulty c.loop-i.invariant c.loop-i-test.true _ c.object.ensures _ c.in-Err.is

pub overflow_mul-from : goal.overflow_mul-from
overflow_mul-from c = search law.rows_fit

pub overflow_add-from : goal.overflow_add-from
overflow_add-from c = search law.end_fits

pub overflow_sub-due : goal.overflow_sub-due
overflow_sub-due c = law.count-due c.loop-i.invariant c.loop-i-test.true

pub loop-i-preserved : goal.loop-i-preserved
loop-i-preserved c =
    let count = get_or c.args.rows.now (object_width * c.loop-i.i + count_column) 0 in
    place-on
    (λ at. law.Judging c.args.buffer.now c.args.rows.now c.args.n c.args.rest.now c.args.components at (c.loop-i.from + component_width * count) (c.loop-i.due - count) (c.loop-i.i + 1))
    object_width c.loop-i.i
    (law.object-passes c.loop-i.invariant c.loop-i-test.true c.object.result c.object.ensures c.in_default.is)

pub returns : goal.returns
returns c = law.objects-end c.loop-i.invariant c.loop-i-test.false
