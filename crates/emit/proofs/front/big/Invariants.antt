use Rattle.emit.proofs.Numbers as numbers
use Rattle.emit.proofs.front.big.Given as goal

abbrev pub invariant-loop-i : goal.invariant-loop-i
invariant-loop-i l = numbers.FillingBig l.w l.n l.initial.out l.out l.i
