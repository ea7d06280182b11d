-- `window::measure` meets its contract: a law for each answer.
use Rattle.window.proofs.Sums as summing
use Rattle.window.proofs.measure.Goals as goal

pub returns-in-None-clause-sum : goal.returns-in-None-clause-sum
returns-in-None-clause-sum c = search summing.no-map

pub returns-in-Some-clause-sum : goal.returns-in-Some-clause-sum
returns-in-Some-clause-sum c = search summing.map-measured
