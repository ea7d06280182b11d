use Prim.Native.Nat.{◌-◌, ◌*◌}
use Rattle.meaning.specs.Columns.{object_width}
use Rattle.layout.specs.Pieces.{objects_of}
use Rattle.layout.proofs.Turns as turns
use Rattle.layout.proofs.objects.objects_at.Given as goal

abbrev pub invariant-loop-i : goal.invariant-loop-i
invariant-loop-i l =
    turns.ObjectsLeft l.buffer l.plan l.rows (objects_of l.buffer l.plan l.rows l.n 0 l.first l.turn) l.at l.initial.out (l.n - l.i) (object_width * l.i) l.from l.next l.past l.out
