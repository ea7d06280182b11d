-- When rows can be measured, and what is then answered.
use Rattle.std.specs.Prelude.{ℕ, ◌+◌, ◌*◌, ◌≤◌, List, map, Bool, true, ◌≡◌, length, leb}
use Rattle.meaning.specs.Columns.{object_width, component_width}
use Rattle.meaning.specs.Text.{all}
use Rattle.meaning.specs.Limit.{rank_limit}
use Rattle.meaning.specs.Read.{Span}
use Rattle.meaning.specs.Asked.{AskedObject, each_row, asked_object, asked}
use Rattle.meaning.specs.Sound.{rows_sound}
use Rattle.meaning.specs.Placement.{placement, last_end}
use Rattle.meaning.specs.Described.{Described, blobs, described}
use Rattle.meaning.specs.Manifest.{manifest_bytes}
use Rattle.rows.specs.Placed.{objects_at, components_at}
use Rattle.rows.specs.Turns.{begun, turn_limit, reached, offsets_from, blob_sizes, counted}
use Rattle.sizes.specs.Size.{capped, capped_end}

unfoldable pub shaped : AskedObject → Bool
shaped o = leb o.rank rank_limit

-- `left` objects from the place `row` on in os, their components from the place `from` on in cs, where the turn `turn` is reached
pub record Fits (plan os cs : List ℕ) (left row from turn : ℕ) : Type 0 where
  pub objects : row + object_width * left ≤ length os
  pub components : from + component_width * counted (objects_at left row os) ≤ length cs
  pub ranks : all shaped (objects_at left row os) ≡ true
  pub ends : reached plan turn (blob_sizes (components_at (counted (objects_at left row os)) from cs)) ≤ turn_limit plan

-- all rows, and the last turn is in time
pub record Measurable (plan rows : List ℕ) (objects components : ℕ) : Type 0 where
  pub lie : object_width * objects + component_width * components ≤ length rows
  pub counts : counted (each_row asked_object object_width objects rows) ≡ components
  pub ranks : all shaped (each_row asked_object object_width objects rows) ≡ true
  pub ends : reached plan (begun plan) (blob_sizes (components_at components (object_width * objects) rows)) ≤ turn_limit plan

-- what the writer's definitions say of a description: its last blob's end, and how long its manifest gets
abbrev pub lengths_of : Described → List ℕ
lengths_of d = map length (blobs d)

abbrev pub end_of : Described → ℕ
end_of d = last_end (placement (lengths_of d)) (lengths_of d)

abbrev pub manifest_length : List ℕ → Described → ℕ
manifest_length plan d = length (manifest_bytes d (offsets_from plan (begun plan) (lengths_of d)))

-- what is answered for rows that are sound with some buffer
abbrev pub EndIs : List ℕ → ℕ → ℕ → ℕ → Type 0
EndIs rows objects components r =
    (buffer : List ℕ) (attributes : Span) → rows_sound buffer rows objects components attributes ≡ true
    → r ≡ capped_end (end_of (described buffer (asked rows objects components attributes)))

abbrev pub ManifestIs : List ℕ → List ℕ → ℕ → ℕ → Span → ℕ → Type 0
ManifestIs plan rows objects components attributes r =
    (buffer : List ℕ) → rows_sound buffer rows objects components attributes ≡ true
    → r ≡ capped (manifest_length plan (described buffer (asked rows objects components attributes)))
