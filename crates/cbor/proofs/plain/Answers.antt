use Rattle.cbor.proofs.plain.Goals.{then-b-ge64+else-b-lt128, else-b-ge64}
use native.Mathlib.Omega.{arith}
use Rattle.cbor.proofs.Returns as says
use Rattle.cbor.proofs.plain.Goals as goal

pub returns-then-s-eq0 : goal.returns-then-s-eq0
returns-then-s-eq0 c = search says.no_bytes

pub returns-then-b-lt128 : goal.returns-then-b-lt128
returns-then-b-lt128 c = search says.plain-string

pub returns-then-low_of-eq31 : goal.returns-then-low_of-eq31
returns-then-low_of-eq31 c = search (says.scalar-open c.args.s.now (λ x y. elim c.if-b-ge64.branch [ then-b-ge64+else-b-lt128 w ↦ omega arith | else-b-ge64 w ↦ omega arith ]))

pub returns-then-h-lt32 : goal.returns-then-h-lt32
returns-then-h-lt32 c = search says.simple-reserved

pub returns-else-h-lt32 : goal.returns-else-h-lt32
returns-else-h-lt32 c = search says.simple-ends

pub returns-else-b : goal.returns-else-b
returns-else-b c = search (says.scalar-ends c.args.s.now (λ x y. elim c.if-b-ge64.branch [ then-b-ge64+else-b-lt128 w ↦ omega arith | else-b-ge64 w ↦ omega arith ]), (c.type_inv.s 0).fits)
