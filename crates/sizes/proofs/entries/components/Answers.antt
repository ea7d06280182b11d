-- `sizes::entries::components` meets its contract.
use native.Mathlib.Omega.{arith}
use Rattle.meaning.specs.Columns.{component_width}
use Rattle.meaning.specs.Asked.{each_row, asked_component}
use Rattle.sizes.specs.Size.{components_size}
use Rattle.rows.proofs.EachRow.{row-on}
use Rattle.sizes.proofs.Turns as turns
use Rattle.sizes.proofs.entries.components.Goals as goal

pub offset_at-requires : goal.offset_at-requires
offset_at-requires c = turns.turn-in-time c.loop-i.invariant

pub stepped-turn-requires : goal.stepped-turn-requires
stepped-turn-requires c = turns.step-in-time c.loop-i.invariant (omega arith)

pub loop-i-preserved : goal.loop-i-preserved
loop-i-preserved c =
    row-on (λ at left. turns.PartsLeft c.args.plan.now c.args.rows.now (components_size c.args.plan.now c.args.first (each_row asked_component component_width c.args.n c.args.rows.now)) at left c.stepped-turn.result c.capped-total.result) component_width c.args.n c.loop-i.i c.loop-i-test.true
    (turns.parts-turn c.loop-i.invariant (omega arith) c.offset_at.ensures c.component-size.ensures c.capped-total.ensures c.stepped-turn.ensures)

pub returns : goal.returns
returns c = turns.all-parts c.loop-i.invariant (omega arith)
