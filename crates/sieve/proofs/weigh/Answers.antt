-- `sieve::weigh` meets its contract: what is added is of the row that was put.
use Rattle.sieve.proofs.ObjectPut as putting
use Rattle.sieve.proofs.weigh.Goals as goal

pub returns-clause-sum : goal.returns-clause-sum
returns-clause-sum c = search putting.weighed
