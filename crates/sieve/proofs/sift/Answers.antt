-- `sieve::sift` meets its contract: a law for each answer.
use Rattle.sieve.proofs.ObjectJudged as sieving
use Rattle.sieve.proofs.sift.Goals as goal

pub returns-in-None-clause-sieve : goal.returns-in-None-clause-sieve
returns-in-None-clause-sieve c = search sieving.no-map

pub returns-in-Some-clause-sieve : goal.returns-in-Some-clause-sieve
returns-in-Some-clause-sieve c = search sieving.map-sifted
