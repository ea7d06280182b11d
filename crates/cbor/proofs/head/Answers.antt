use Rattle.cbor.proofs.Returns as says
use Rattle.cbor.proofs.head.Goals as goal

pub returns-then-s-eq0 : goal.returns-then-s-eq0
returns-then-s-eq0 c = search says.head-none

pub returns-then-low-lt24 : goal.returns-then-low-lt24
returns-then-low-lt24 c = search says.head_small
