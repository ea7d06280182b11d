-- `rescuer::rescue` meets its contract: a law for each way out.
use Rattle.rescuer.proofs.RescuedLaid as laying
use Rattle.rescuer.proofs.rescue.Goals as goal

pub returns-then-not-fits : goal.returns-then-not-fits
returns-then-not-fits c = record { answer = search laying.short-told; listed = search laying.short-list; output = search laying.short-output; cleared = search laying.cleared }

pub returns-in-Err : goal.returns-in-Err
returns-in-Err c = record { answer = search laying.refused-told; listed = search laying.refused-list; output = search laying.refused-output; cleared = search laying.cleared }

pub returns-else-not-fits-clause-answer : goal.returns-else-not-fits-clause-answer
returns-else-not-fits-clause-answer c = search laying.well-told

pub returns-else-not-fits-clause-cleared : goal.returns-else-not-fits-clause-cleared
returns-else-not-fits-clause-cleared c = search laying.cleared-after
