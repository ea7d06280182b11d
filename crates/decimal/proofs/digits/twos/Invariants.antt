use Rattle.decimal.proofs.Powers as powers
use Rattle.decimal.proofs.digits.twos.Given as goal

abbrev pub invariant-loop-k : goal.invariant-loop-k
invariant-loop-k l = powers.Doubling l.initial.a l.j l.a l.k

abbrev pub decreases-loop-k : goal.decreases-loop-k
decreases-loop-k l = l.k

abbrev pub invariant-loop-k-2 : goal.invariant-loop-k-2
invariant-loop-k-2 l = powers.Doubling l.initial.a l.initial.k l.a l.k

abbrev pub decreases-loop-k-2 : goal.decreases-loop-k-2
decreases-loop-k-2 l = l.k
