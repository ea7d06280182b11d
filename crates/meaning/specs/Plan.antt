-- Document 02, Request 02: which placement plans are accepted. A plan is a list of offsets, one for each component's row.
use Rattle.std.specs.Prelude.{ℕ, suc, ◌+◌, ◌%◌, List, [], ◌∷◌, Bool, ◌&&◌, ◌||◌, eqb, leb}
use Rattle.meaning.specs.Refusal.{PLAN}
use Rattle.meaning.specs.Limit.{alignment, end_limit}
use Rattle.meaning.specs.Text.{all}
use Rattle.meaning.specs.Check.{Check, pass, refuse, ◌>>=◌, ◌>>◌, ◌unless◌, in_object}
use Rattle.meaning.specs.Read.{Span}

abbrev pub ranged : ℕ → ℕ → Span
ranged offset size = record { place = offset; size = size }

-- two ranges share no byte; an empty one shares none
unfoldable pub apart : Span → Span → Bool
apart s t = eqb s.size 0 || eqb t.size 0 || leb (s.place + s.size) t.place || leb (t.place + t.size) s.place

module _ (ceiling : ℕ) where
  -- what an offset keeps to by itself
  unfoldable pub allowed : Span → Bool
  allowed s = eqb (s.place % alignment) 0 && leb alignment s.place && leb (s.place + s.size) ceiling

  -- of the rows from the i-th on: offsets that are left, blobs' lengths, and where earlier blobs stand. The place of an object gives the row
  unfoldable pub planned_from : ℕ → List Span → List ℕ → List ℕ → Check (Unit {0})
  planned_from i earlier [] [] = pass tt
  planned_from i earlier [] (l ∷ ls) = refuse PLAN i 0
  planned_from i earlier (o ∷ os) [] = refuse PLAN i 0
  planned_from i earlier (o ∷ os) (l ∷ ls) = do
    in_object i (PLAN unless allowed (ranged o l) && all (apart (ranged o l)) earlier)
    planned_from (suc i) (ranged o l ∷ earlier) os ls

-- a plan for blobs of these lengths
unfoldable pub planned : ℕ → List ℕ → List ℕ → Check (Unit {0})
planned ceiling plan lengths = do
  PLAN unless leb ceiling end_limit
  planned_from ceiling 0 [] plan lengths
