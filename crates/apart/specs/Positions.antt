-- What two runs of bytes are answered, and how far both go.
use Rattle.std.specs.Prelude.{ℕ, ◌+◌, ◌≤◌, ◌<◌, max, List, ◌≡◌, ◌⊎◌, length, get_or}
use Rattle.changes.specs.Changes.{how_many, differs_at, position_apart, count_apart}
use Rattle.apart.specs.declared.Apart.{Apart}
use Rattle.text.specs.Order.{Agree}

abbrev pub told : List ℕ → List ℕ → Apart
told x y = record { position = position_apart x y; count = count_apart x y }

-- n positions lie in both
pub record Both (x y : List ℕ) (n : ℕ) : Type 0 where
  pub first : n ≤ length x
  pub second : n ≤ length y

-- those and no others, and one of them has so many more
pub record Rest (x y : List ℕ) (n more : ℕ) : Type 0 where
  pub both : Both x y n
  pub ends : (length x ≡ n) ⊎ (length y ≡ n)
  pub sum : max (length x) (length y) ≡ n + more

-- at how many of the first n positions they differ
unfoldable pub many_apart : List ℕ → List ℕ → ℕ → ℕ
many_apart x y n = how_many (differs_at x y) n

-- how many are compared at once
abbrev pub block : ℕ
block = 128

-- the first r of n agree
pub record Passed (x y : List ℕ) (n r : ℕ) : Type 0 where
  pub most : r ≤ n
  pub agree : Agree x y r

-- and the next doesn't, if there is one
pub record Run (x y : List ℕ) (n r : ℕ) : Type 0 where
  pub passed : Passed x y n r
  pub stops : r < n → get_or x r 0 ≡ get_or y r 0 → ⊥
