use Prim.Native.Nat.{◌*◌}
use Rattle.meaning.specs.Columns.{component_width}
use Rattle.foresee.proofs.Parts as law
use Rattle.foresee.proofs.judged.put_parts.Given as goal

abbrev pub invariant-loop-j : goal.invariant-loop-j
invariant-loop-j l = law.Putting l.buffer l.rows l.n l.out (component_width * l.j) l.j
