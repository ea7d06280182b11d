-- `layout::objects::objects_at` meets its contract: the invariant says what is done and what is still to be.
use native.Mathlib.Omega.{arith}
use Prim.Native.Nat.{◌+◌, ◌*◌}
use lib.ListN.{get_or}
use Rattle.meaning.specs.Columns.{object_width, component_width, count_column}
use Rattle.emit.proofs.LaidPieces as laying
use Rattle.rows.proofs.EachRow.{rows-begin, row-on}
use Rattle.layout.specs.Pieces.{objects_of}
use Rattle.layout.proofs.Turns as turns
use Rattle.layout.proofs.objects.objects_at.Goals as goal

pub loop-i-init : goal.loop-i-init
loop-i-init c =
    rows-begin (λ row left. turns.ObjectsLeft c.args.buffer.now c.args.plan.now c.args.rows.now (objects_of c.args.buffer.now c.args.plan.now c.args.rows.now c.args.n 0 c.args.first c.args.turn) c.args.at c.args.out.now left row c.args.first c.args.turn c.args.at c.args.out.now) 0 c.args.n
    (turns.objects-begin c.requires.object_rows c.requires.room)

pub overflow_mul-row : goal.overflow_mul-row
overflow_mul-row c = let h = turns.row-there c.loop-i.invariant (omega arith) in omega arith

pub overflow_add-count : goal.overflow_add-count
overflow_add-count c = let h = turns.row-there c.loop-i.invariant (omega arith) in omega arith

pub offset_bounds-rows-row : goal.offset_bounds-rows-row
offset_bounds-rows-row c = let h = turns.row-there c.loop-i.invariant (omega arith) in omega arith

pub bounds-rows-row : goal.bounds-rows-row
bounds-rows-row c = let h = turns.row-there c.loop-i.invariant (omega arith) in omega arith

pub offset_bounds-rows-row-in-loop-i : goal.offset_bounds-rows-row-in-loop-i
offset_bounds-rows-row-in-loop-i c = let h = turns.row-there c.loop-i.invariant (omega arith) in omega arith

pub slice_bounds-object_at-count : goal.slice_bounds-object_at-count
slice_bounds-object_at-count c = let h = turns.row-there c.loop-i.invariant (omega arith) in omega arith

pub slice_bounds-object_at-start : goal.slice_bounds-object_at-start
slice_bounds-object_at-start c = let h = turns.row-there c.loop-i.invariant (omega arith) in omega arith

pub object_at-begun-requires : goal.object_at-begun-requires
object_at-begun-requires c = let can = turns.object-can c.loop-i.invariant (omega arith) in record { object_row = can.0; room = can.1 }

pub components_at-p-requires : goal.components_at-p-requires
components_at-p-requires c = let can = turns.components-can c.loop-i.invariant (omega arith) c.object_at-begun.ensures in record { component_rows = can.0; room = can.1 }

pub overflow_mul-from : goal.overflow_mul-from
overflow_mul-from c = let h = turns.components-there c.loop-i.invariant (omega arith) in omega arith

pub overflow_add-from : goal.overflow_add-from
overflow_add-from c = let h = turns.components-there c.loop-i.invariant (omega arith) in omega arith

pub loop-i-preserved : goal.loop-i-preserved
loop-i-preserved c =
    row-on
    (λ row left. turns.ObjectsLeft c.args.buffer.now c.args.plan.now c.args.rows.now (objects_of c.args.buffer.now c.args.plan.now c.args.rows.now c.args.n 0 c.args.first c.args.turn) c.args.at c.args.out.now left row
    (c.loop-i.from + component_width * get_or c.args.rows.now (object_width * c.loop-i.i + count_column) 0) c.components_at-p.result.turn c.components_at-p.result.at c.components_at-p.new.out)
    object_width c.args.n c.loop-i.i c.loop-i-test.true
    (turns.object-turn c.loop-i.invariant (omega arith) c.object_at-begun.ensures c.components_at-p.ensures.laid c.components_at-p.ensures.turn)

pub shape_of-out : goal.shape_of-out
shape_of-out c = search laying.same-so-far

pub returns : goal.returns
returns c = turns.all-objects c.loop-i.invariant (omega arith)
