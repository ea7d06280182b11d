use lib.ListN.{length}
use Rattle.emit.proofs.LaidPieces as laying
use Rattle.emit.proofs.front.copy.Given as goal

abbrev pub invariant-loop-i : goal.invariant-loop-i
invariant-loop-i l = laying.Filling l.s (length l.s) l.initial.out l.out l.i
