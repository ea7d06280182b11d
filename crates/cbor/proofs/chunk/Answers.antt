use Rattle.cbor.proofs.Majors as majors
use Rattle.cbor.proofs.Returns as says
use Rattle.cbor.proofs.chunk.Goals as goal

pub returns-then-s-eq0 : goal.returns-then-s-eq0
returns-then-s-eq0 c = search majors.chunk-none

pub returns-then-major_of-major : goal.returns-then-major_of-major
returns-then-major_of-major c = search says.chunk-other

pub returns-then-low_of-eq31 : goal.returns-then-low_of-eq31
returns-then-low_of-eq31 c = search says.chunk-open

pub returns : goal.returns
returns c = search says.chunk-ends
