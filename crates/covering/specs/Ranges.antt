-- Positions, and ranges that cover them. A range is two numbers of a list: where it begins, and the position past its last; it may be empty, and ranges may overlap in any way.
use Rattle.std.specs.Prelude.{ℕ, zero, suc, ◌+◌, List, [], ◌∷◌, Bool, cond, ◌&&◌, leb, ltb}

-- how many of the n positions from `at` on
unfoldable pub count : (ℕ → Bool) → ℕ → ℕ → ℕ
count holds zero at = 0
count holds (suc n) at = cond (holds at) 1 0 + count holds n (suc at)

abbrev pub lies : ℕ → ℕ → ℕ → Bool
lies p begins past = leb begins p && ltb p past

-- in how many of the ranges a position lies
unfoldable pub times : ℕ → List ℕ → ℕ
times p [] = 0
times p (begins ∷ []) = 0
times p (begins ∷ past ∷ rest) = cond (lies p begins past) 1 0 + times p rest

-- in at least one
unfoldable pub covered : List ℕ → ℕ → Bool
covered ranges p = ltb 0 (times p ranges)

-- the positions below n that are covered, each counted once
unfoldable pub inside : List ℕ → ℕ → ℕ
inside ranges n = count (covered ranges) n 0
