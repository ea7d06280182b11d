-- `objects::one` meets its contract: a law for each branch.
use Rattle.objects.proofs.OneObject as ones
use Rattle.objects.proofs.Laying as laying
use Rattle.objects.proofs.one.Goals as goal

pub returns-then-deep : goal.returns-then-deep
returns-then-deep c = search (ones.ends_so, ones.judged-so, laying.lent-whole)

pub returns : goal.returns
returns c = search (ones.ends_so, ones.passed-so, laying.not-deep)
