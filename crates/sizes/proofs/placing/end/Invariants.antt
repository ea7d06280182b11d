use Prim.Native.Nat.{◌-◌, ◌*◌}
use Rattle.meaning.specs.Columns.{component_width}
use Rattle.sizes.proofs.PlanOrNone as law
use Rattle.sizes.proofs.placing.end.Given as goal

abbrev pub invariant-loop-i : goal.invariant-loop-i
invariant-loop-i l = law.Placing l.rows l.n l.start (component_width * l.i) (l.n - l.i) l.place
