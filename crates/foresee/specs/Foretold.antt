-- Checks of each component or object in turn with what they pass forgotten.
use Rattle.std.specs.Prelude.{ℕ, ◌*◌, ◌≤◌, List, true, ◌≡◌, length}
use Rattle.meaning.specs.Columns.{object_width, component_width}
use Rattle.meaning.specs.Text.{all}
use Rattle.meaning.specs.Check.{Check, pass, ◌>>◌, in_object, in_component, each}
use Rattle.meaning.specs.Asked.{each_row, asked_object, asked_component}
use Rattle.meaning.specs.Described.{DescribedComponent, DescribedObject, described_objects}
use Rattle.meaning.specs.Sound.{object_sound}
use Rattle.rows.specs.Turns.{counted}
use Rattle.readback.specs.Judged.{judged_component, judged_object}

-- from index j on
unfoldable pub each_component : ℕ → List DescribedComponent → Check (Unit {0})
each_component j cs = each (λ j c. in_component j (judged_component c)) j cs >> pass tt

unfoldable pub each_object : ℕ → List DescribedObject → Check (Unit {0})
each_object i os = each (λ i o. in_object i (judged_object o)) i os >> pass tt

-- the objects of n rows, with the components of so many rows
unfoldable pub objects_of : List ℕ → List ℕ → ℕ → List ℕ → ℕ → List DescribedObject
objects_of buffer rows n rest components = described_objects buffer (each_row asked_object object_width n rows) (each_row asked_component component_width components rest)

-- rows as long as the counts say, which add up; every object's row is sound
pub record Counted (buffer rows : List ℕ) (n : ℕ) (rest : List ℕ) (components : ℕ) : Type 0 where
  pub enough : object_width * n ≤ length rows
  pub enough-rest : component_width * components ≤ length rest
  pub adds-up : counted (each_row asked_object object_width n rows) ≡ components
  pub sound : all (object_sound buffer) (each_row asked_object object_width n rows) ≡ true
