-- The components of an object, by the place of their first row; and which of them has a name.
use Rattle.std.specs.Prelude.{ℕ, zero, suc, ◌+◌, ◌*◌, ◌<◌, List, [], ◌∷◌, ◌≡◌, Option, MatchOption}
use Rattle.std.proofs.Math.Option.{none, some}
use Rattle.meaning.specs.Columns.{component_width}
use Rattle.meaning.specs.Described.{DescribedComponent}
use Rattle.changes.specs.Changes.{part}
use Rattle.differing.specs.Rows.{part_at}

unfoldable pub parts_at : List ℕ → List ℕ → ℕ → ℕ → List DescribedComponent
parts_at file table row zero = []
parts_at file table row (suc n) = part_at file table row ∷ parts_at file table (row + component_width) n

-- the number of c's namesake among the n components there, if there is one
abbrev pub Beside : DescribedComponent → List ℕ → List ℕ → ℕ → ℕ → Option ℕ → Type 0
Beside c file table row n o =
    MatchOption o (part c.name (parts_at file table row n) ≡ none)
    (λ r. (r < n) × (part c.name (parts_at file table row n) ≡ some (record { index = r; it = part_at file table (row + component_width * r) })))
