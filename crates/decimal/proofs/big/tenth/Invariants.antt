use Rattle.decimal.proofs.Glue as glue
use Rattle.decimal.proofs.big.tenth.Given as goal

abbrev pub invariant-loop-i : goal.invariant-loop-i
invariant-loop-i l = glue.Divided l.initial.a l.a l.rest l.i
