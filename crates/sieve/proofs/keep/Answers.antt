-- `sieve::keep` meets its contract: an object that is measured.
use Rattle.sieve.proofs.ObjectPut as putting
use Rattle.sieve.proofs.keep.Goals as goal

pub returns-clause-kept : goal.returns-clause-kept
returns-clause-kept c = search putting.keeps-weighed
