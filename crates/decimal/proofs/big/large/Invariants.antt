use Rattle.decimal.proofs.Units as units
use Rattle.decimal.proofs.big.large.Given as goal

abbrev pub invariant-loop-i : goal.invariant-loop-i
invariant-loop-i l = units.Looked l.a l.i
