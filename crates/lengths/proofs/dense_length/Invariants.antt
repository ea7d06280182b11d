use Rattle.lengths.proofs.Exact as laws
use Rattle.lengths.proofs.dense_length.Given as goal

abbrev pub invariant-loop-i : goal.invariant-loop-i
invariant-loop-i l = laws.Multiplied l.shape l.unit l.p l.i
