-- `text::digests::mix_words` meets its contract. The loop's invariant: what is left to mix into g and h gives every other word's digest. Assumes nothing.
use Rattle.text.proofs.DigestSteps as steps
use Rattle.text.proofs.digests.mix_words.Goals as goal

pub loop-k-init : goal.loop-k-init
loop-k-init c = search steps.words-none

pub loop-k-preserved : goal.loop-k-preserved
loop-k-preserved c = search steps.words_more

pub returns : goal.returns
returns c = search steps.words-all
