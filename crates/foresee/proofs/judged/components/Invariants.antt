use Prim.Native.Nat.{◌*◌}
use Rattle.meaning.specs.Columns.{component_width}
use Rattle.foresee.proofs.Components as law
use Rattle.foresee.proofs.judged.components.Given as goal

abbrev pub invariant-loop-j : goal.invariant-loop-j
invariant-loop-j l = law.Judging l.buffer l.rows l.n (component_width * l.j) l.j
