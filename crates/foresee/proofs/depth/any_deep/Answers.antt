-- `foresee::depth::any_deep` meets its contract.
use native.Mathlib.Omega.{arith}
use Rattle.meaning.specs.Columns.{object_width}
use Rattle.rows.proofs.EachRow.{row-on}
use Rattle.foresee.proofs.DeepLaws as law
use Rattle.foresee.proofs.depth.any_deep.Goals as goal

pub returns-then-deep : goal.returns-then-deep
returns-then-deep c = law.one-deep c.loop-i.invariant (omega arith) c.deep.ensures c.if-deep.true

pub loop-i-preserved : goal.loop-i-preserved
loop-i-preserved c =
    row-on (λ at left. law.NoneDeep c.args.buffer.now c.args.rows.now c.args.n at left) object_width c.args.n c.loop-i.i c.loop-i-test.true
    (law.none-deep-yet c.loop-i.invariant (omega arith) c.deep.ensures c.if-deep.false)

pub returns : goal.returns
returns c = law.none_deep c.loop-i.invariant (omega arith)
