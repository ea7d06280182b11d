-- `badshape::shape` meets its contract: a law for each branch.
use Rattle.badshape.proofs.Elements as elements
use native.Mathlib.Omega.{arith}
use Rattle.badshape.proofs.shape.Goals as goal
use mathlib.Core.Path.{refl}

pub returns-in_default : goal.returns-in_default
returns-in_default c = elements.no-list c.args.s.now c.list.ensures c.in_default.is c.at.ensures

pub loop-mode-init : goal.loop-mode-init
loop-mode-init c = elements.begins c.args.s.now c.list.ensures (omega arith) c.in-Some.is

pub returns-in_default-number : goal.returns-in_default-number
returns-in_default-number c = elements.no_number c.loop-mode.invariant c.more.ensures c.loop-mode-test.true c.number.ensures c.in_default-number.is c.at-in_default-number.ensures

pub returns-then-s-at : goal.returns-then-s-at
returns-then-s-at c = elements.no_end c.loop-mode.invariant c.more.ensures c.loop-mode-test.true c.number.ensures c.in-Some-number.is c.skip-k.ensures c.if-s-at.true

pub loop-mode-smaller : goal.loop-mode-smaller
loop-mode-smaller c = elements.nearer c.loop-mode.invariant c.skip-k.ensures c.if-s-at.false

pub loop-mode-preserved : goal.loop-mode-preserved
loop-mode-preserved c = elements.goes_on c.loop-mode.invariant c.more.ensures c.loop-mode-test.true c.number.ensures c.in-Some-number.is c.skip-k.ensures c.if-s-at.false

pub returns-then-rank-gt8 : goal.returns-then-rank-gt8
returns-then-rank-gt8 c = elements.many-dimensions c.loop-mode.invariant c.more.ensures c.loop-mode-test.false c.if-rank-gt8.true c.at-then-rank-gt8.ensures

pub returns : goal.returns
returns c = elements.dimensions-are c.loop-mode.invariant c.more.ensures c.loop-mode-test.false c.if-rank-gt8.false refl
