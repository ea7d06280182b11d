use Rattle.cbor.proofs.Returns as says
use Rattle.cbor.proofs.string.Goals as goal

pub returns-then-s-eq0 : goal.returns-then-s-eq0
returns-then-s-eq0 c = search says.no_bytes

pub returns-then-s-r : goal.returns-then-s-r
returns-then-s-r c = search says.chunks-refused

pub returns-then-low_of-eq31 : goal.returns-then-low_of-eq31
returns-then-low_of-eq31 c = search says.chunks-end

pub returns : goal.returns
returns c = search says.string-ends
