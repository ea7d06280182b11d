use Rattle.names.proofs.TabledNames as tabled
use Rattle.names.proofs.tabled.claim.Given as goal

abbrev pub invariant-loop-p : goal.invariant-loop-p
invariant-loop-p l = tabled.Probed l.initial.table l.table l.h l.p
