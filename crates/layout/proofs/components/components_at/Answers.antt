-- `layout::components::components_at` meets its contract: the invariant says what is done and what is still to be.
use native.Mathlib.Omega.{arith}
use Rattle.meaning.specs.Columns.{component_width}
use Rattle.emit.proofs.LaidPieces as laying
use Rattle.rows.proofs.EachRow.{rows-begin, row-on-from}
use Rattle.layout.specs.Pieces.{components_of, reached_past}
use Rattle.layout.proofs.RowLoop as walking
use Rattle.layout.proofs.Turns as turns
use Rattle.layout.proofs.components.components_at.Goals as goal

pub loop-i-init : goal.loop-i-init
loop-i-init c =
    rows-begin (λ row left. turns.ComponentsLeft c.args.buffer.now c.args.plan.now c.args.rows.now (components_of c.args.buffer.now c.args.plan.now c.args.rows.now c.args.n c.args.first c.args.turn) c.args.at c.args.out.now (reached_past c.args.plan.now c.args.rows.now c.args.n c.args.first c.args.turn) left row c.args.turn c.args.at c.args.out.now) c.args.first c.args.n
    (turns.components-begin c.requires.component_rows c.requires.room)

pub offset_at-start-requires : goal.offset_at-start-requires
offset_at-start-requires c = walking.reached-low c.loop-i.invariant.rest

pub component_at-past-requires : goal.component_at-past-requires
component_at-past-requires c = let can = turns.component-can c.loop-i.invariant (omega arith) c.offset_at-start.ensures in record { component_row = can.0; room = can.1 }

pub stepped-next-requires : goal.stepped-next-requires
stepped-next-requires c = walking.next_low c.loop-i.invariant.rest (omega arith)

pub loop-i-preserved : goal.loop-i-preserved
loop-i-preserved c =
    row-on-from
    (λ row left. turns.ComponentsLeft c.args.buffer.now c.args.plan.now c.args.rows.now (components_of c.args.buffer.now c.args.plan.now c.args.rows.now c.args.n c.args.first c.args.turn) c.args.at c.args.out.now
    (reached_past c.args.plan.now c.args.rows.now c.args.n c.args.first c.args.turn) left row c.stepped-next.result c.component_at-past.result c.component_at-past.new.out)
    c.args.first component_width c.args.n c.loop-i.i c.loop-i-test.true
    (turns.component-turn c.loop-i.invariant (omega arith) c.offset_at-start.ensures c.component_at-past.ensures c.stepped-next.ensures)

pub shape_of-out : goal.shape_of-out
shape_of-out c = search laying.same-so-far

pub returns : goal.returns
returns c = let all = turns.all-components c.loop-i.invariant (omega arith) in record { laid = all.0; turn = all.1 }
