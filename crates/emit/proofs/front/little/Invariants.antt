use Rattle.meaning.specs.WrittenFile.{little_bytes}
use Rattle.emit.proofs.LaidPieces as laying
use Rattle.emit.proofs.front.little.Given as goal

abbrev pub invariant-loop-i : goal.invariant-loop-i
invariant-loop-i l = laying.Filling (little_bytes 8 l.n) 8 l.initial.out l.out l.i
