-- The number that k bytes of s from i on make after the number a, the first byte the highest.
use Rattle.std.specs.Prelude.{ℕ, zero, suc, ◌+◌, ◌*◌, List, get_or}

unfoldable pub word : ℕ → List ℕ → ℕ → ℕ → ℕ
word zero s i a = a
word (suc k) s i a = word k s (suc i) (a * 256 + get_or s i 0)

-- the number of four bytes from i on, the first byte the lowest
abbrev pub little_four : List ℕ → ℕ → ℕ
little_four s i = get_or s i 0 + get_or s (i + 1) 0 * 256 + get_or s (i + 2) 0 * 65536 + get_or s (i + 3) 0 * 16777216
