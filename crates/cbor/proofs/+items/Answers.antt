use Rattle.cbor.proofs.Returns as says
use native.Mathlib.Omega.{arith}
use Rattle.cbor.proofs.+items.Goals as goal
use Rattle.cbor.proofs.+items.Goals.{then-b-ge128+else-b-lt224, else-b-ge128}

pub loop-due-init : goal.loop-due-init
loop-due-init t c = search says.none_yet

pub returns-then-s-at : goal.returns-then-s-at
returns-then-s-at t c = search says.bytes-missing

pub returns-then-b : goal.returns-then-b
returns-then-b t c = search says.at-break

pub returns-then-s-at-2 : goal.returns-then-s-at-2
returns-then-s-at-2 t c = search says.head-refused

pub returns-then-s-from : goal.returns-then-s-from
returns-then-s-from t c = search says.holder-stops

pub loop-due-smaller-then-b-lt224 : goal.loop-due-smaller-then-b-lt224
loop-due-smaller-then-b-lt224 t c = search says.holder-shortens

pub loop-due-preserved-then-b-lt224 : goal.loop-due-preserved-then-b-lt224
loop-due-preserved-then-b-lt224 t c = search says.holder-passes

pub returns-then-s-at-3 : goal.returns-then-s-at-3
returns-then-s-at-3 t c = search (says.plain-stops c.loop-due.invariant (λ x y. elim c.if-b-ge128.branch [ then-b-ge128+else-b-lt224 w ↦ omega arith | else-b-ge128 w ↦ omega arith ]))

pub loop-due-smaller : goal.loop-due-smaller
loop-due-smaller t c = search (says.plain-shortens c.loop-due.invariant (λ x y. elim c.if-b-ge128.branch [ then-b-ge128+else-b-lt224 w ↦ omega arith | else-b-ge128 w ↦ omega arith ]))

pub loop-due-preserved : goal.loop-due-preserved
loop-due-preserved t c = search (says.plain_passes c.loop-due.invariant (λ x y. elim c.if-b-ge128.branch [ then-b-ge128+else-b-lt224 w ↦ omega arith | else-b-ge128 w ↦ omega arith ]))

pub returns : goal.returns
returns t c = search says.all-passed
