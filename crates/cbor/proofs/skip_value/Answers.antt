-- `cbor::skip_value` meets its contract: a number or a text of up to 255 bytes by its head, anything else as one item that is due.
use native.Mathlib.Omega.{arith}
use Rattle.cbor.proofs.Returns as says
use Rattle.cbor.proofs.skip_value.Goals as goal

pub returns-then-s-eq0 : goal.returns-then-s-eq0
returns-then-s-eq0 c = search says.no_bytes

pub returns-then-b-lt28 : goal.returns-then-b-lt28
returns-then-b-lt28 c = search says.number-ends

pub returns-then-s-ge2 : goal.returns-then-s-ge2
returns-then-s-ge2 c = search says.byte-text

pub items-requires : goal.items-requires
items-requires c = λ h. absurd (omega arith)

pub returns : goal.returns
returns c = search says.one-item
