-- `sizes::entries::objects` meets its contract.
use Prim.Native.Nat.{◌+◌, ◌*◌}
use lib.ListN.{get_or}
use Rattle.sizes.specs.Size.{objects_size_in}
use native.Mathlib.Omega.{arith}
use Rattle.meaning.specs.Columns.{object_width, component_width, count_column}
use Rattle.rows.proofs.EachRow.{row-on}
use Rattle.sizes.proofs.Turns as turns
use Rattle.sizes.proofs.entries.objects.Goals as goal

pub object-requires-clause-rank_column_bound : goal.object-requires-clause-rank_column_bound
object-requires-clause-rank_column_bound c = turns.rank-there c.loop-i.invariant (omega arith)

pub overflow_add-own : goal.overflow_add-own
overflow_add-own c = turns.own-fits c.loop-i.invariant (omega arith) _ c.object.ensures c.head.ensures

pub overflow_add-total : goal.overflow_add-total
overflow_add-total c = turns.own-sum-fits c.loop-i.invariant (omega arith) _ c.object.ensures c.head.ensures

pub components-requires-clause-n_in_bounds : goal.components-requires-clause-n_in_bounds
components-requires-clause-n_in_bounds c = turns.parts-there c.loop-i.invariant (omega arith)

pub components-requires-clause-rows_bound : goal.components-requires-clause-rows_bound
components-requires-clause-rows_bound c = turns.parts-in-time c.loop-i.invariant (omega arith)

pub overflow_add-total-in-loop-i : goal.overflow_add-total-in-loop-i
overflow_add-total-in-loop-i c = turns.parts-sum-fits c.loop-i.invariant (omega arith) _ c.object.ensures c.head.ensures _ c.components.ensures

pub turn_past-turn-requires-clause-n_in_bounds : goal.turn_past-turn-requires-clause-n_in_bounds
turn_past-turn-requires-clause-n_in_bounds c = turns.parts-there c.loop-i.invariant (omega arith)

pub turn_past-turn-requires-clause-rows_bound : goal.turn_past-turn-requires-clause-rows_bound
turn_past-turn-requires-clause-rows_bound c = turns.parts-in-time c.loop-i.invariant (omega arith)

pub overflow_mul-from : goal.overflow_mul-from
overflow_mul-from c = search (arith, turns.parts-fit)

pub overflow_add-from : goal.overflow_add-from
overflow_add-from c = search (arith, turns.next-from-fits)

pub loop-i-preserved : goal.loop-i-preserved
loop-i-preserved c =
    row-on (λ row left. turns.ObjectsLeft c.args.plan.now c.args.rows.now c.args.parts.now (objects_size_in c.args.plan.now c.args.rows.now c.args.parts.now c.args.n) row (c.loop-i.from + component_width * get_or c.args.rows.now (object_width * c.loop-i.i + count_column) 0) left c.turn_past-turn.result c.capped-total.result) object_width c.args.n c.loop-i.i c.loop-i-test.true
    (turns.objects-turn c.loop-i.invariant (omega arith) c.object.ensures c.head.ensures c.components.ensures c.capped-total.ensures c.turn_past-turn.ensures)

pub returns : goal.returns
returns c = turns.all-objects c.loop-i.invariant (omega arith)
