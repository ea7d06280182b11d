use Rattle.unshared.proofs.Sought as seeking
use Rattle.matching.specs.Named.{named}
use Rattle.names.specs.Names.{listed}
use Rattle.unshared.proofs.unshared.Given as goal

abbrev pub invariant-loop-i : goal.invariant-loop-i
invariant-loop-i l = seeking.Left (listed (named l.first l.table 0 2) 0 l.n) (named l.second l.table 0 2) l.n l.k l.i
