use Rattle.names.proofs.TabledNames as tabled
use Rattle.names.proofs.tabled.claimed.Given as goal

abbrev pub invariant-loop-i : goal.invariant-loop-i
invariant-loop-i l = tabled.Tabled l.m l.left l.size l.initial.table l.table l.i
