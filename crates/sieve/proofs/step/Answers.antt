-- `sieve::step` meets its contract: a law for each verdict.
use Rattle.sieve.proofs.ObjectJudged as sieving
use Rattle.sieve.proofs.step.Goals as goal

pub returns-in-Err-clause-sieve : goal.returns-in-Err-clause-sieve
returns-in-Err-clause-sieve c = search sieving.steps-omit

pub returns-in-Ok-clause-sieve : goal.returns-in-Ok-clause-sieve
returns-in-Ok-clause-sieve c = search sieving.steps-keep
