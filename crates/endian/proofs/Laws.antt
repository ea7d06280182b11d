-- The numbers of one, two, four and eight bytes, written out; and what the meaning's own reading of a number finds there.
use Prim.Native.Nat.{ℕ, zero, suc, ◌+◌, ◌*◌, ◌≤◌}
use native.Mathlib.Omega.{arith}
use mathlib.Core.List.{List}
use mathlib.Core.Path.{◌≡◌}
use lib.ListN.{length, get_or, drop}
use lib.Seq.{drop-cons}
use Rattle.meaning.specs.Read.{got, byte, number}
use Rattle.endian.specs.Word.{word}

module _ (s : List ℕ) (i : ℕ) where
  one : i + 1 ≡ suc i
  one = omega arith

  two : i + 2 ≡ suc (suc i)
  two = omega arith

  three : i + 3 ≡ suc (suc (suc i))
  three = omega arith

  four : i + 4 ≡ suc (suc (suc (suc i)))
  four = omega arith

  pub word-one : word 1 s i 0 ≡ get_or s i 0
  unfolding word
  word-one = omega arith

  pub word_two : word 2 s i 0 ≡ get_or s i 0 * 256 + get_or s (i + 1) 0
  unfolding word
  word_two = rw one (omega arith)

  pub word-four : word 4 s i 0 ≡ get_or s i 0 * 16777216 + get_or s (i + 1) 0 * 65536 + get_or s (i + 2) 0 * 256 + get_or s (i + 3) 0
  unfolding word
  word-four = rw (one, two, three) (omega arith)

  pub word-eight : word 8 s i 0 ≡ word 4 s i 0 * 4294967296 + word 4 s (i + 4) 0
  unfolding word
  word-eight = rw four (omega arith)

-- the meaning reads the same number, the first byte the highest
pub number-is-word : (k : ℕ) (s : List ℕ) (i a : ℕ) → i + k ≤ length s → number k a (drop i s) ≡ got (word k s i a) (drop (i + k) s)
unfolding number byte word
number-is-word zero s i a l = let z : i + 0 ≡ i = omega arith in rw z
number-is-word (suc k) s i a l =
    let z : i + suc k ≡ suc i + k = omega arith in
    let y : 256 * a + get_or s i 0 ≡ a * 256 + get_or s i 0 = omega arith in
    rw (drop-cons s i 0 (omega arith), y, z) (number-is-word k s (suc i) (a * 256 + get_or s i 0) (omega arith))
