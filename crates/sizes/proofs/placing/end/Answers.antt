-- `sizes::placing::end` meets its contract.
use Prim.Native.Nat.{◌+◌, ◌*◌}
use lib.ListN.{get_or}
use native.Mathlib.Omega.{arith}
use Rattle.meaning.specs.Columns.{component_width, length_column}
use Rattle.rows.proofs.EachRow.{row-on}
use Rattle.sizes.proofs.PlanOrNone as law
use Rattle.sizes.proofs.placing.end.Goals as goal

pub overflow_sub-offset : goal.overflow_sub-offset
overflow_sub-offset c = law.offset-low c.loop-i.invariant c.aligned-offset.ensures

pub returns-then-offset-size : goal.returns-then-offset-size
returns-then-offset-size c = law.past-limit c.loop-i.invariant c.aligned-offset.ensures (omega arith) c.if-offset-size.true

pub loop-i-preserved : goal.loop-i-preserved
loop-i-preserved c =
    row-on (λ at left. law.Placing c.args.rows.now c.args.n c.args.start at left (c.aligned-offset.result + get_or c.args.rows.now (component_width * c.loop-i.i + length_column) 0)) component_width c.args.n c.loop-i.i c.loop-i-test.true
    (law.one-more-placed c.loop-i.invariant c.aligned-offset.ensures (omega arith) c.if-offset-size.false)

pub returns : goal.returns
returns c = law.all_placed c.loop-i.invariant (omega arith)
