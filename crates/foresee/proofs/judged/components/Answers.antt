-- `foresee::judged::components` meets its contract.
use Prim.Native.Nat.{◌+◌}
use Rattle.meaning.specs.Columns.{component_width}
use Rattle.rows.proofs.EachRow.{place-on}
use Rattle.foresee.proofs.Components as law
use Rattle.foresee.proofs.judged.components.Goals as goal

pub returns-in-Err : goal.returns-in-Err
returns-in-Err c = law.component-faulty c.loop-j.invariant c.loop-j-test.true _ c.component.ensures c.in-Err.is

pub loop-j-preserved : goal.loop-j-preserved
loop-j-preserved c =
    place-on (λ at. law.Judging c.args.buffer.now c.args.rows.now c.args.n at (c.loop-j.j + 1)) component_width c.loop-j.j
    (law.component-passes c.loop-j.invariant c.loop-j-test.true _ c.component.ensures c.in_default.is)

pub returns : goal.returns
returns c = law.components-end c.loop-j.invariant c.loop-j-test.false
