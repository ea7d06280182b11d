-- `cbor::number_size` meets its contract: a law for each width.
use Rattle.cbor.proofs.FirstByte as first
use Rattle.cbor.proofs.Returns as says
use Rattle.cbor.proofs.number_size.Goals as goal

pub returns-then-b-lt24 : goal.returns-then-b-lt24
returns-then-b-lt24 c = search first.small_size

pub returns-then-b-eq24 : goal.returns-then-b-eq24
returns-then-b-eq24 c = search says.size-24

pub returns-then-b-eq25 : goal.returns-then-b-eq25
returns-then-b-eq25 c = search says.size-25

pub returns-then-b-eq26 : goal.returns-then-b-eq26
returns-then-b-eq26 c = search says.size-26

pub returns : goal.returns
returns c = search says.size-27
