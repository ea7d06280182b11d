use Rattle.text.proofs.DigestSteps as steps
use Rattle.text.proofs.digests.mix_bytes.Given as goal

abbrev pub invariant-loop-b : goal.invariant-loop-b
invariant-loop-b l = steps.MixingBytes l.t l.b-index l.h
