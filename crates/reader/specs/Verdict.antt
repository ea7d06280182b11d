-- The answer of the acceptance check, for the meaning of a file.
use Rattle.std.specs.Prelude.{ℕ, List, ◌≡◌, length, Ok, Err, Result}
use Rattle.meaning.specs.Tree.{Node}
use Rattle.meaning.specs.Check.{Check, pass, refuse, ◌>>=◌}
use Rattle.meaning.specs.Read.{span_to, manifest}
use Rattle.meaning.specs.Model.{Model}
use Rattle.meaning.specs.Notes.{map_model}
use Rattle.meaning.specs.Judge.{judge}
use Rattle.meaning.specs.Frame.{Reading, checked}
use Rattle.meaning.specs.Rows.{component_count}
use Rattle.meaning.specs.Layouts.{Layout}
use Rattle.walk.specs.Reading.{Ends, Reads, left_at}
use Rattle.root.specs.Verdict.{ObjectsAt}
use Rattle.reader.specs.declared.Verdict.{Verdict}
use Rattle.reader.specs.declared.Told.{Told}
use Rattle.table.specs.Spans.{span_of}
use Rattle.numbers.specs.declared.fault.FileFault.{FileFault}
use Rattle.numbers.specs.Answered.{in_file}

abbrev pub refusal : ℕ → ℕ → ℕ → Verdict
refusal n o c = record { number = n; object = o; component = c }

abbrev pub verdict : Check Reading → Verdict
verdict (pass r) = refusal 0 0 0
verdict (refuse n o c) = refusal n o c

-- the part of a file's reading that follows its frame: the manifest s, which begins at `start` and ends at `end`
abbrev pub manifest_reading : Layout → ℕ → ℕ → List ℕ → Check Reading
manifest_reading L end start s = do
  t ← checked (manifest (span_to end) s)
  m ← judge L start t
  pass (record { start = start; model = m })

-- a manifest m that is accepted: the tree it is read as, the model, and what was answered of them
pub record Accepted (L : Layout) (end start : ℕ) (m : List ℕ) (objects components left at : ℕ) : Type 0 where
  pub tree : Node Ends
  pub rest : List ℕ
  pub reads : Reads 32 m tree rest
  pub model : Model Ends
  pub judged : judge L start tree ≡ pass model
  pub is : manifest_reading L end start m ≡ pass (record { start = start; model = map_model (span_of end) model })
  pub objects-are : objects ≡ length model.objects
  pub components-are : components ≡ component_count model.objects
  pub attributes-left : left ≡ left_at model.attributes
  pub objects-at : ObjectsAt L m at

abbrev pub ManifestIs : Layout → ℕ → ℕ → List ℕ → Result Told FileFault → Type 0
ManifestIs L end start m (Err f) = manifest_reading L end start m ≡ in_file (Err f)
ManifestIs L end start m (Ok v) = Accepted L end start m v.objects v.components v.attributes v.place

-- a reading that is refused so, or one that passes
abbrev pub Judges : Check Reading → Result Told FileFault → Type 0
Judges k (Err f) = k ≡ in_file (Err f)
Judges k (Ok v) = (r : Reading) × (k ≡ pass r)
