use Rattle.cbor.proofs.Returns as says
use Rattle.cbor.proofs.chunks.Goals as goal

pub loop-at-init : goal.loop-at-init
loop-at-init c = search says.chunked-none

pub returns-then-s-at : goal.returns-then-s-at
returns-then-s-at c = search says.break-here

pub returns-then-s-at-2 : goal.returns-then-s-at-2
returns-then-s-at-2 c = search says.chunk-refused

pub loop-at-smaller : goal.loop-at-smaller
loop-at-smaller c = search says.chunk-shortens

pub loop-at-preserved : goal.loop-at-preserved
loop-at-preserved c = search says.chunk-passed

pub returns : goal.returns
returns c = search says.break-missing
