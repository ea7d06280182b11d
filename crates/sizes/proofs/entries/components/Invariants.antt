use Prim.Native.Nat.{◌-◌, ◌*◌}
use Rattle.sizes.proofs.Turns as turns
use Rattle.sizes.specs.Size.{components_size}
use Rattle.meaning.specs.Columns.{component_width}
use Rattle.meaning.specs.Asked.{each_row, asked_component}
use Rattle.sizes.proofs.entries.components.Given as goal

abbrev pub invariant-loop-i : goal.invariant-loop-i
invariant-loop-i l =
    turns.PartsLeft l.plan l.rows (components_size l.plan l.first (each_row asked_component component_width l.n l.rows)) (component_width * l.i) (l.n - l.i) l.turn l.total
