-- `sieve::each` meets its contract: a law for each need.
use Rattle.walk.proofs.Passed as walked
use Rattle.sieve.proofs.ObjectJudged as sieving
use Rattle.sieve.proofs.each.Goals as goal

pub loop-have-init : goal.loop-have-init
loop-have-init c = search sieving.loop-starts

pub returns-in-End-clause-sieve : goal.returns-in-End-clause-sieve
returns-in-End-clause-sieve c = search sieving.all-sieved

pub returns-then-s-v-clause-sieve : goal.returns-then-s-v-clause-sieve
returns-then-s-v-clause-sieve c = search sieving.none-there

pub loop-have-smaller : goal.loop-have-smaller
loop-have-smaller c = search walked.nearer

pub loop-have-preserved : goal.loop-have-preserved
loop-have-preserved c = search sieving.loops-on
