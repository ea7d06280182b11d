use Rattle.text.proofs.DigestSteps as steps
use Rattle.text.proofs.digests.mix_words.Given as goal

abbrev pub invariant-loop-k : goal.invariant-loop-k
invariant-loop-k l = steps.MixingWords l.t l.k l.g l.h
