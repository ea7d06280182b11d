-- The order of texts: the shorter first, then by the first byte that differs. 1 is before, 2 after, 0 equal.
use Rattle.std.specs.Prelude.{ℕ, ◌<◌, List, [], ◌∷◌, cond, ◌≡◌, length, get_or, ltb}
use Rattle.std.specs.declared.cmp.Ordering.{Ordering}
use Rattle.std.specs.declared.cmp.Ordering.TheVariants.{Less, Equal, Greater}

-- by two numbers, or else by r
unfoldable pub first : ℕ → ℕ → ℕ → ℕ
first x y r = cond (ltb x y) 1 (cond (ltb y x) 2 r)

unfoldable pub lex : List ℕ → List ℕ → ℕ
lex [] [] = 0
lex [] (y ∷ ys) = 1
lex (x ∷ xs) [] = 2
lex (x ∷ xs) (y ∷ ys) = first x y (lex xs ys)

unfoldable pub order : List ℕ → List ℕ → ℕ
order a b = first (length a) (length b) (lex a b)

-- these numbers, as std names them
abbrev pub number : Ordering → ℕ
number Less = 1
number Equal = 0
number Greater = 2

-- the first i bytes are equal
pub record Agree (s t : List ℕ) (i : ℕ) : Type 0 where
  pub each : (j : ℕ) → j < i → get_or s j 0 ≡ get_or t j 0
