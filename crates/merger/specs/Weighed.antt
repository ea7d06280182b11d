-- A reading, and what is answered of it: the refusal, or counts, attributes and sums.
use Rattle.std.specs.Prelude.{ℕ, suc, ◌+◌, ◌*◌, ◌≤◌, List, ◌≡◌, length, Ok, Err, Result}
use Rattle.std.proofs.lemmas.List.Edits.{sets}
use Rattle.meaning.specs.Limit.{manifest_limit, end_limit}
use Rattle.meaning.specs.Check.{Check, pass, refuse}
use Rattle.meaning.specs.Read.{Span}
use Rattle.meaning.specs.Model.{Model}
use Rattle.meaning.specs.Frame.{Reading}
use Rattle.meaning.specs.Rows.{attributes_span, component_count}
use Rattle.meaning.specs.Every.{Every}
use Rattle.window.specs.Sums.{name_pairs}
use Rattle.window.specs.Summed.{InWindow, Sum}
use Rattle.merger.specs.declared.weigh.Weighed.{Weighed}
use Rattle.numbers.specs.declared.fault.FileFault.{FileFault}
use Rattle.numbers.specs.Numbered.{number_of}

-- the sums from a place p and n bytes on, and the names' places
pub record Sums (m : Model Span) (p n from : ℕ) (before : List ℕ) (q k : ℕ) (after : List ℕ) : Type 0 where
  pub sum : Sum p n m.objects q k
  pub names : from + 2 * length m.objects ≤ length before → after ≡ sets before from (name_pairs m.objects)

pub record Weighs (c : Check Reading) (p n from : ℕ) (before : List ℕ) (objects components place size q k : ℕ) (after : List ℕ) : Type 0 where
  pub read : Reading
  pub is : c ≡ pass read
  pub objects-are : objects ≡ length read.model.objects
  pub components-are : components ≡ component_count read.model.objects
  pub attributes-are : record { place = place; size = size } ≡ attributes_span read.model.attributes
  pub sums : Every InWindow read.model.objects → Sums read.model p n from before q k after
  pub small : (q ≤ suc end_limit) × (k ≤ suc manifest_limit)

abbrev pub Cases : Check Reading → ℕ → ℕ → ℕ → List ℕ → Result Weighed FileFault → List ℕ → Type 0
Cases c p n from before (Err f) after = c ≡ refuse (number_of f.refusal) f.object f.component
Cases c p n from before (Ok v) after = Weighs c p n from before v.objects v.components v.place v.size v.end v.total after

pub record WeighedIs (c : Check Reading) (p n from : ℕ) (before : List ℕ) (w : Result Weighed FileFault) (after : List ℕ) : Type 0 where
  pub case : Cases c p n from before w after
