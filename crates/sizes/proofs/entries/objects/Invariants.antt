use Prim.Native.Nat.{◌-◌, ◌*◌}
use Rattle.sizes.proofs.Turns as turns
use Rattle.sizes.specs.Size.{objects_size_in}
use Rattle.meaning.specs.Columns.{object_width}
use Rattle.sizes.proofs.entries.objects.Given as goal

abbrev pub invariant-loop-i : goal.invariant-loop-i
invariant-loop-i l = turns.ObjectsLeft l.plan l.rows l.parts (objects_size_in l.plan l.rows l.parts l.n) (object_width * l.i) l.from (l.n - l.i) l.turn l.total
