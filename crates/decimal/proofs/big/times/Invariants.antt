use Rattle.decimal.proofs.Glue as glue
use Rattle.decimal.proofs.big.times.Given as goal

abbrev pub invariant-loop-limb : goal.invariant-loop-limb
invariant-loop-limb l = glue.Timed l.initial.a l.c l.a l.carry l.limb-index
