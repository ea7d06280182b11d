use Prim.Native.Nat.{◌-◌, ◌*◌}
use Rattle.meaning.specs.Columns.{object_width}
use Rattle.foresee.proofs.DeepLaws as law
use Rattle.foresee.proofs.depth.any_deep.Given as goal

abbrev pub invariant-loop-i : goal.invariant-loop-i
invariant-loop-i l = law.NoneDeep l.buffer l.rows l.n (object_width * l.i) (l.n - l.i)
