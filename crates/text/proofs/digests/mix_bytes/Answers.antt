-- `text::digests::mix_bytes` meets its contract. The loop's invariant: what is left to mix into h gives the digest. Assumes nothing.
use native.Mathlib.Omega.{arith}
use Rattle.text.proofs.DigestSteps as steps
use Rattle.text.proofs.digests.mix_bytes.Goals as goal

pub loop-b-init : goal.loop-b-init
loop-b-init c = search steps.bytes-none

pub loop-b-preserved : goal.loop-b-preserved
loop-b-preserved c = steps.byte_more c.loop-b.invariant (omega arith) c.from.ensures c.mix-h.ensures

pub returns : goal.returns
returns c = search steps.bytes-all
