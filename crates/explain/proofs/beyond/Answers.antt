-- `explain::beyond` meets its contract: a law for each need.
use Rattle.explain.proofs.OwnCheck as own
use Rattle.explain.proofs.beyond.Goals as goal

pub returns-then-fault-ne0 : goal.returns-then-fault-ne0
returns-then-fault-ne0 c = search own.an-object

pub returns-else-fault-ne0 : goal.returns-else-fault-ne0
returns-else-fault-ne0 c = search own.no-object
