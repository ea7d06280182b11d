-- What a component of f32 numbers shows: nothing, only NaNs, or the smallest and largest number with the count of NaNs.
-- Numbers and their order are IEEE 754's (`lib.Ieee`): infinities are numbers, the two zeros are equal; of equal ones the first met is kept.
use Rattle.std.specs.Prelude.{ℕ, suc, ◌+◌, ◌*◌, Bool, false, cond, not, List, [], ◌∷◌, get_or, T, Float}
use Rattle.std.specs.Float.{binary32}
use Rattle.std.specs.Float.Ieee.{of_bits, to_bits, is_nan, lt}
use Rattle.finding.specs.declared.Finding as the
use Rattle.finding.specs.declared.Shown.{Shown}
use Rattle.finding.specs.declared.Finding.TheVariants.{Empty, OnlyNaN, Span}

-- the pattern of four bytes, the least significant first
abbrev pub pattern : ℕ → ℕ → ℕ → ℕ → ℕ
pattern a b c d = a + b * 256 + c * 65536 + d * 16777216

abbrev pub pattern_at : List ℕ → ℕ → ℕ
pattern_at s i = pattern (get_or s i 0) (get_or s (i + 1) 0) (get_or s (i + 2) 0) (get_or s (i + 3) 0)

-- the numbers that the bytes hold, four bytes to each
unfoldable pub values : List ℕ → List Float
values [] = []
values (a ∷ []) = []
values (a ∷ b ∷ []) = []
values (a ∷ b ∷ c ∷ []) = []
values (a ∷ b ∷ c ∷ d ∷ s) = of_bits binary32 (pattern a b c d) ∷ values s

unfoldable pub nans : List Float → ℕ
nans [] = 0
nans (x ∷ xs) = cond (is_nan x) (suc (nans xs)) (nans xs)

unfoldable pub numbers : List Float → List Float
numbers [] = []
numbers (x ∷ xs) = cond (is_nan x) (numbers xs) (x ∷ numbers xs)

abbrev pub lesser : Float → Float → Float
lesser kept x = cond (lt x kept) x kept

abbrev pub greater : Float → Float → Float
greater kept x = cond (lt kept x) x kept

-- neither below the one nor above the other
abbrev pub within : Float → Float → Float → Bool
within lo hi x = cond (lt x lo) false (not (lt hi x))

unfoldable pub smallest : Float → List Float → Float
smallest kept [] = kept
smallest kept (x ∷ xs) = smallest (lesser kept x) xs

unfoldable pub largest : Float → List Float → Float
largest kept [] = kept
largest kept (x ∷ xs) = largest (greater kept x) xs

-- by the numbers, where there is a value at all
unfoldable pub of_numbers : ℕ → List Float → the.Finding
unfolding smallest largest
of_numbers n [] = OnlyNaN n
of_numbers n (x ∷ xs) = Span (smallest x xs) (largest x xs) n

unfoldable pub of_values : List Float → the.Finding
unfolding nans numbers of_numbers
of_values [] = Empty
of_values (x ∷ xs) = of_numbers (nans (x ∷ xs)) (numbers (x ∷ xs))

unfoldable pub finding : List ℕ → the.Finding
unfolding values of_values
finding s = of_values (values s)

-- the numbers of a finding are no NaNs
abbrev pub Sound : the.Finding → Type 0
Sound Empty = ℕ
Sound (OnlyNaN n) = ℕ
Sound (Span a b n) = T (not (is_nan a)) × T (not (is_nan b))

-- a finding in numbers, its f32s as patterns
unfoldable pub shown : the.Finding → Shown
shown Empty = record { finding = 1; smallest = 0; largest = 0; nans = 0 }
shown (OnlyNaN n) = record { finding = 2; smallest = 0; largest = 0; nans = n }
shown (Span a b n) = record { finding = 3; smallest = to_bits binary32 a; largest = to_bits binary32 b; nans = n }
