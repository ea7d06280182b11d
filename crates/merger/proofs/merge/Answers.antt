-- `merger::merge` meets its contract: a law for each way out.
use Rattle.merger.proofs.MergedLaid as laying
use Rattle.merger.proofs.merge.Goals as goal

pub overflow_add-components : goal.overflow_add-components
overflow_add-components c = search laying.components-fit

pub returns-then-not-fits : goal.returns-then-not-fits
returns-then-not-fits c = record { answer = search laying.short-answer; output = search laying.short-output; cleared = search laying.cleared }

pub returns-in-Err : goal.returns-in-Err
returns-in-Err c = record { answer = search laying.refused-answer; output = search laying.refused-output; cleared = search laying.cleared }

pub returns-else-not-fits : goal.returns-else-not-fits
returns-else-not-fits c = record { answer = search laying.merged-answer; output = search; cleared = search laying.cleared }
