-- `foresee::judged::put_part` meets its contract: a law for each branch.
use Rattle.foresee.proofs.Parts as law
use Rattle.foresee.proofs.judged.put_part.Goals as goal

pub returns : goal.returns
returns c = search law.part-put
