-- `objects::beyond` meets its contract: a law for each branch.
use Rattle.objects.proofs.Laying as laying
use Rattle.objects.proofs.beyond.Goals as goal

pub returns-then-n-gt16 : goal.returns-then-n-gt16
returns-then-n-gt16 c = search laying.beyond-many

pub returns-in_default : goal.returns-in_default
returns-in_default c = search laying.beyond-none

pub returns : goal.returns
returns c = search laying.beyond-these
