-- An accepted plan, row by row, and what an offset keeps to.
use Rattle.std.specs.Prelude.{ℕ, ◌+◌, ◌%◌, ◌≤◌, ◌<◌, List, [], ◌∷◌, true, ◌⊎◌, ◌≡◌}
use Rattle.meaning.specs.Limit.{alignment}
use Rattle.meaning.specs.Text.{all}
use Rattle.meaning.specs.Read.{Span}
use Rattle.meaning.specs.Plan.{ranged, apart}

pub record Allowed (ceiling offset size : ℕ) : Type 0 where
  pub multiple : offset % alignment ≡ 0
  pub low : alignment ≤ offset
  pub ends : offset + size ≤ ceiling

-- offsets for blobs of these lengths, where earlier blobs stand
pub data Follows (ceiling : ℕ) : List Span → List ℕ → List ℕ → Type 0 where
  none : {earlier : List Span} → Follows ceiling earlier [] []
  next : {earlier : List Span} {o l : ℕ} {os ls : List ℕ} → Allowed ceiling o l → all (apart (ranged o l)) earlier ≡ true
      → Follows ceiling (ranged o l ∷ earlier) os ls → Follows ceiling earlier (o ∷ os) (l ∷ ls)

-- one of a list
pub data In {A : Type 0} (a : A) : List A → Type 0 where
  here : {as' : List A} → In a (a ∷ as')
  later : {b : A} {as' : List A} → In a as' → In a (b ∷ as')

-- all together
abbrev pub sum : List ℕ → ℕ
sum [] = 0
sum (n ∷ ns) = n + sum ns

-- a place that no blob of these lengths covers at these offsets
abbrev pub Outside : ℕ → List ℕ → List ℕ → Type 0
Outside k [] ls = Unit {0}
Outside k (o ∷ os) [] = Unit {0}
Outside k (o ∷ os) (l ∷ ls) = ((k < o) ⊎ (o + l ≤ k)) × Outside k os ls

-- each of these blobs ends at the place n, or before
abbrev pub Before : ℕ → List Span → Type 0
Before n [] = Unit {0}
Before n (s ∷ ss) = (s.place + s.size ≤ n) × Before n ss
