-- `foresee::judged::ruled` meets its contract: a law for each branch.
use Rattle.foresee.proofs.Parts as law
use Rattle.foresee.proofs.judged.ruled.Goals as goal

pub slice_bounds-judge-end-2 : goal.slice_bounds-judge-end-2
slice_bounds-judge-end-2 c = search law.used-parts

pub returns : goal.returns
returns c = search law.ruled-so
