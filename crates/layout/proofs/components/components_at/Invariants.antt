use Prim.Native.Nat.{◌+◌, ◌-◌, ◌*◌}
use Rattle.meaning.specs.Columns.{component_width}
use Rattle.layout.specs.Pieces.{components_of, reached_past}
use Rattle.layout.proofs.Turns as turns
use Rattle.layout.proofs.components.components_at.Given as goal

abbrev pub invariant-loop-i : goal.invariant-loop-i
invariant-loop-i l =
    turns.ComponentsLeft l.buffer l.plan l.rows (components_of l.buffer l.plan l.rows l.n l.first l.turn) l.at l.initial.out (reached_past l.plan l.rows l.n l.first l.turn) (l.n - l.i) (l.first + component_width * l.i) l.next l.past l.out
