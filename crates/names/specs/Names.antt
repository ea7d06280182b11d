-- The names that two arrays of numbers list: for each, the bytes left at its first byte, and its length.
use Rattle.std.specs.Prelude.{ℕ, zero, suc, ◌-◌, ◌≤◌, ◌<◌, List, [], ◌∷◌, ◌≡◌, length, get_or, take, drop}

abbrev pub word_at : List ℕ → ℕ → ℕ → List ℕ
word_at m l n = take n (drop (length m - l) m)

unfoldable pub name : List ℕ → List ℕ → List ℕ → ℕ → List ℕ
name m left size i = word_at m (get_or left i 0) (get_or size i 0)

-- k of them from number i on
unfoldable pub listed : (ℕ → List ℕ) → ℕ → ℕ → List (List ℕ)
listed f i zero = []
listed f i (suc k) = f i ∷ listed f (suc i) k

-- the names before number k differ from each other
abbrev pub Differ : (ℕ → List ℕ) → ℕ → Type 0
Differ f k = (i j : ℕ) → i < j → j < k → f i ≡ f j → ⊥

-- the name of number k is that of an earlier one
pub record Copy (f : ℕ → List ℕ) (k : ℕ) : Type 0 where
  pub first : ℕ
  pub before : first < k
  pub is : f first ≡ f k

-- how many of the n names differ from each other, from the left: the next, if there is one, is a copy
pub record Leading (f : ℕ → List ℕ) (n r : ℕ) : Type 0 where
  pub most : r ≤ n
  pub differ : Differ f r
  pub copied : r < n → Copy f r
