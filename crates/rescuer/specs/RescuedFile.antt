-- The rescue's answer as the code's, and room for the kept objects' rows, the list and the rescued file.
use Rattle.std.specs.Prelude.{ℕ, ◌+◌, ◌*◌, ◌≤◌, List, length}
use Rattle.meaning.specs.Columns.{object_width, component_width}
use Rattle.rescuing.specs.Rescue as meant
use Rattle.rescuing.specs.Rescue.{Rescue, entry_width, rescue_answer}
use Rattle.rescuer.specs.declared.checks.Verdict.{Verdict}
use Rattle.rescuer.specs.declared.Rescued.{Rescued}

abbrev pub answer : ℕ → ℕ → ℕ → ℕ → ℕ → ℕ → Rescued
answer number object component kept dropped length = record { number = number; object = object; component = component; kept = kept; dropped = dropped; length = length }

abbrev pub told : meant.Rescued → Rescued
told a = answer a.number a.object a.component a.kept a.dropped a.length

abbrev pub answered : Rescue → Rescued
answered r = told (rescue_answer r)

pub record Enough (v : Verdict) (rows list out : List ℕ) : Type 0 where
  pub numbers : object_width * v.kept + component_width * v.components ≤ length rows
  pub entries : entry_width * v.dropped ≤ length list
  pub bytes : v.long ≤ length out
