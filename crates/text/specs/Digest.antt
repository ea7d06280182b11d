-- A number of a text. No contract that a user reads depends on it: only that it is a function of the text matters.
use Rattle.std.specs.Prelude.{ℕ, zero, suc, ◌+◌, ◌-◌, ◌*◌, ◌/◌, ◌%◌, List, cond, length, ltb}
use Rattle.std.specs.Int.Bits.{bit_xor}
use Rattle.endian.specs.Word.{word}

unfoldable pub mixed : ℕ → ℕ → ℕ
mixed h w = bit_xor h w % 4294967296 * 2654435761 + bit_xor h w / 4294967296

-- k words of `width` bytes, from i on and each `step` bytes after the one before, mixed into h
unfoldable pub mixed_in : ℕ → ℕ → ℕ → List ℕ → ℕ → ℕ → ℕ
mixed_in width step zero s i h = h
mixed_in width step (suc k) s i h = mixed_in width step k s (i + step) (mixed h (word width s i 0))

-- every other word, from i on
abbrev pub every_other : List ℕ → ℕ → ℕ
every_other s i = mixed_in 8 16 (length s / 16) s i (length s)

unfoldable pub of_words : List ℕ → ℕ
of_words s = mixed (mixed (mixed (every_other s 0) (word 8 s (length s - 16) 0)) (word 8 s (length s - 8) 0)) (every_other s 8)

unfoldable pub of_bytes : List ℕ → ℕ
of_bytes s = mixed_in 1 1 (length s) s 0 (length s)

unfoldable pub digest : List ℕ → ℕ
digest s = cond (ltb (length s) 8) (of_bytes s) (of_words s) % 4294967295 + 1
