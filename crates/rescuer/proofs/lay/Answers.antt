-- `rescuer::lay` meets its contract: the second pass, and the file that is written.
use Rattle.rescuer.proofs.RescuedLaid as laying
use Rattle.rescuer.proofs.lay.Goals as goal

pub returns-clause-output : goal.returns-clause-output
returns-clause-output c = search laying.output-is

pub returns-clause-listed : goal.returns-clause-listed
returns-clause-listed c = search laying.list-is
