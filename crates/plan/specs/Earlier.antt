-- Blobs by their offsets in a plan and their lengths in the components' rows, and what is answered of them.
use Rattle.std.specs.Prelude.{ℕ, zero, suc, ◌+◌, ◌*◌, ◌≤◌, ◌<◌, List, [], ◌∷◌, ◌≡◌, length, get_or, Ok, Err, Result}
use Rattle.meaning.specs.Limit.{end_limit}
use Rattle.meaning.specs.Check.{pass, refuse}
use Rattle.meaning.specs.Columns.{component_width, length_column}
use Rattle.meaning.specs.Asked.{each_row, asked_component}
use Rattle.meaning.specs.Read.{Span}
use Rattle.meaning.specs.Placement.{last_end}
use Rattle.meaning.specs.Plan.{ranged, planned}
use Rattle.rows.specs.Turns.{blob_sizes}
use Rattle.readback.specs.Follows.{Before}
use Rattle.numbers.specs.Numbered.{number_of}
use Rattle.numbers.specs.declared.fault.FileFault.{FileFault}

module _ (plan rows : List ℕ) where
  -- the i-th blob
  abbrev pub here : ℕ → Span
  here i = ranged (get_or plan i 0) (get_or rows (component_width * i + length_column) 0)

  -- the first n, the last of them first
  unfoldable pub earlier : ℕ → List Span
  earlier zero = []
  earlier (suc n) = here n ∷ earlier n

  -- both have so many, and all of them end in time
  pub record Earlier (n : ℕ) : Type 0 where
    pub offsets : n ≤ length plan
    pub rows-there : component_width * n ≤ length rows
    pub low : Before end_limit (earlier n)

  -- one more, under a ceiling; the earlier ones end at `end` or before
  pub record Next (i end ceiling : ℕ) : Type 0 where
    pub before : Earlier i
    pub ends : Before end (earlier i)
    pub offset : i < length plan
    pub row-there : component_width * suc i ≤ length rows
    pub ceiling-low : ceiling ≤ end_limit

  abbrev pub sizes : ℕ → List ℕ
  sizes n = blob_sizes (each_row asked_component component_width n rows)

  abbrev pub Judges : ℕ → ℕ → Result ℕ FileFault → Type 0
  Judges n ceiling (Err f) = planned ceiling plan (sizes n) ≡ refuse (number_of f.refusal) f.object f.component
  Judges n ceiling (Ok end) = (planned ceiling plan (sizes n) ≡ pass tt) × (end ≡ last_end plan (sizes n))
