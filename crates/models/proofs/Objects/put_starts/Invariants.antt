use Rattle.models.proofs.Numbered as objects
use Rattle.models.proofs.Objects.put_starts.Given as goal

abbrev pub invariant-loop-j : goal.invariant-loop-j
invariant-loop-j l = objects.Begun l.self.table.now l.self.count l.j l.at l.initial.starts l.starts
