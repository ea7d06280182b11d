-- `window::each` meets its contract: a law for each need. The loop keeps what was noted and put of the pairs passed.
use Rattle.window.proofs.Sums as summing
use Rattle.window.proofs.each.Goals as goal

pub loop-sum-init : goal.loop-sum-init
loop-sum-init c = search summing.loop-starts

pub returns-in-End-clause-sum : goal.returns-in-End-clause-sum
returns-in-End-clause-sum c = search summing.all-summed

pub returns-then-s-v-clause-sum : goal.returns-then-s-v-clause-sum
returns-then-s-v-clause-sum c = search summing.none_read

pub loop-sum-smaller : goal.loop-sum-smaller
loop-sum-smaller c = search summing.turn-less

pub loop-sum-preserved : goal.loop-sum-preserved
loop-sum-preserved c = search summing.loops-on
