-- `cbor::skip` meets its contract: short text by its first byte, anything else by `skip_value`.
use Rattle.cbor.proofs.Returns as says
use Rattle.cbor.proofs.skip.Goals as goal

pub returns-then-s-eq0 : goal.returns-then-s-eq0
returns-then-s-eq0 c = search says.no_bytes

pub returns-then-left-gt0 : goal.returns-then-left-gt0
returns-then-left-gt0 c = search says.short-text

pub returns : goal.returns
returns c = search says.all-of-it
