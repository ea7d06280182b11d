-- A text of at most 21 bytes as three numbers, seven bytes in each, and the known name that three numbers are.
use Rattle.std.specs.Prelude.{ℕ, suc, ◌+◌, ◌*◌, ◌/◌, ◌%◌, ◌^◌, List, [], ◌∷◌, Bool, true, cond, ◌&&◌, ◌≡◌, length, get_or, take, drop, eqb, leb, ltb}
use Rattle.meaning.specs.Text.{same, all}

-- bytes as digits, the first the lowest, with a last digit 1 that tells how many there are
unfoldable pub tagged : List ℕ → ℕ
tagged [] = 1
tagged (b ∷ s) = b + 256 * tagged s

-- the four bytes from i on as digits
abbrev pub four_at : List ℕ → ℕ → ℕ
four_at k i = get_or k i 0 + get_or k (i + 1) 0 * 256 + get_or k (i + 2) 0 * 65536 + get_or k (i + 3) 0 * 16777216

-- the name n has these three numbers
abbrev pub hits : List ℕ → ℕ → ℕ → ℕ → Bool
hits n a b c = eqb (tagged (take 7 n)) a && (eqb (tagged (take 7 (drop 7 n))) b && eqb (tagged (drop 7 (drop 7 n))) c)

abbrev pub is_row : List ℕ → ℕ → ℕ → ℕ → ℕ → Bool
is_row rows at a b c = eqb (get_or rows at 0) a && (eqb (get_or rows (at + 1) 0) b && eqb (get_or rows (at + 2) 0) c)

-- the first row that is these three numbers, or the number of rows
unfoldable pub found : List ℕ → ℕ → ℕ → ℕ → ℕ
found [] a b c = 0
found (x ∷ []) a b c = 0
found (x ∷ (y ∷ [])) a b c = 0
found (x ∷ (y ∷ (z ∷ rows))) a b c = let r = found rows a b c in cond (eqb x a && (eqb y b && eqb z c)) 0 (suc r)

unfoldable pub rows_of : List (List ℕ) → List ℕ
rows_of [] = []
rows_of (n ∷ ns) = tagged (take 7 n) ∷ (tagged (take 7 (drop 7 n)) ∷ (tagged (drop 7 (drop 7 n)) ∷ rows_of ns))

abbrev pub bytes : List ℕ → Bool
bytes s = all (λ b. ltb b 256) s

-- a name that has three numbers
abbrev pub holds : List ℕ → Bool
holds n = bytes n && leb (length n) 21

-- three numbers tell which names k is
abbrev pub Tells : ℕ → ℕ → ℕ → List ℕ → Type 0
Tells a b c k = (n : List ℕ) → holds n ≡ true → hits n a b c ≡ same n k

-- a hexadecimal digit of a number, counted from the lowest
abbrev pub digit_of : ℕ → ℕ → ℕ
digit_of table i = table / 2 ^ (4 * i) % 16
