-- `text::digests::mix` meets its contract, and its sum fits. Assumes nothing.
use mathlib.Core.Path.{refl}
use Rattle.text.proofs.DigestSteps as steps
use Rattle.text.specs.Digest.{mixed}
use Rattle.text.proofs.digests.mix.Goals as goal

pub overflow_add-result : goal.overflow_add-result
overflow_add-result c = search steps.mix-fits

pub returns : goal.returns
returns c = unfold mixed in refl
