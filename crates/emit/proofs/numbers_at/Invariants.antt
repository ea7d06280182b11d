use Rattle.emit.proofs.LaidPieces as laying
use Rattle.emit.proofs.numbers_at.Given as goal

abbrev pub invariant-loop-n : goal.invariant-loop-n
invariant-loop-n l = laying.NumbersLaid l.ns l.at l.initial.out l.past l.n-index l.out
