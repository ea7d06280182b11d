use Prim.Native.Nat.{◌*◌}
use Rattle.meaning.specs.Columns.{object_width}
use Rattle.foresee.proofs.Objects as law
use Rattle.foresee.proofs.each.Given as goal

abbrev pub invariant-loop-i : goal.invariant-loop-i
invariant-loop-i l = law.Judging l.buffer l.rows l.n l.rest l.components (object_width * l.i) l.from l.due l.i
