-- What a turn of the digest's loops does, and that its sums fit. Assumes nothing.
use mathlib.Core.Path.{◌≡◌, refl, sym, ap, ap₂, ◌∙◌}
use mathlib.Core.List.{List}
use mathlib.Core.Bool.{cond}
use Prim.Native.Nat.{ℕ, suc, ◌+◌, ◌-◌, ◌*◌, ◌/◌, ◌%◌, ◌≤◌, ◌<◌}
use native.Mathlib.Omega.{arith}
use lib.ListN.{length, get_or}
use lib.Bits.{bit_xor, xor_lt}
use lib.Dec.{ltb}
use borrow.Author.Tests.{lt-ltb, le-ltb}
use Rattle.endian.specs.Word.{word}
use Rattle.endian.proofs.Laws.{word-one}
use Rattle.text.specs.Digest.{mixed, mixed_in, every_other, of_words, of_bytes, digest}

module _ (width step k : ℕ) (s : List ℕ) (i h : ℕ) where
  one_more : (n j w g : ℕ) → k ≡ n + 1 → j ≡ i + step → w ≡ word width s i 0 → g ≡ mixed h w → mixed_in width step k s i h ≡ mixed_in width step n s j g
  unfolding mixed_in
  one_more n j w g l p e q = let z : k ≡ suc n = omega arith in rw (z, p, q, e)

  no_more : k ≡ 0 → mixed_in width step k s i h ≡ h
  unfolding mixed_in
  no_more e = rw e

-- by bytes or by words
digest-by : (of : List ℕ → ℕ) (s : List ℕ) {r : ℕ} → r ≡ of s → cond (ltb (length s) 8) (of_bytes s) (of_words s) ≡ of s → r % 4294967295 + 1 ≡ digest s
unfolding digest
digest-by of s e q = ap (λ u. u % 4294967295 + 1) (e ∙ sym q)

module _ (s : List ℕ) {r : ℕ} where
  pub by_bytes : length s < 8 → r ≡ of_bytes s → r % 4294967295 + 1 ≡ digest s
  by_bytes l e = digest-by of_bytes s e (rw (lt-ltb (length s) 8 l))

  pub by-words : 8 ≤ length s → r ≡ of_words s → r % 4294967295 + 1 ≡ digest s
  by-words l e = digest-by of_words s e (rw (le-ltb (length s) 8 l))

-- ---------------------------------------------------------------- the loop over bytes

-- the first i bytes are mixed into h
pub record MixingBytes (t : List ℕ) (i h : ℕ) : Type 0 where
  pub lie : i ≤ length t
  pub so_far : mixed_in 1 1 (length t) t 0 (length t) ≡ mixed_in 1 1 (length t - i) t i h

pub bytes-none : {t : List ℕ} → MixingBytes t 0 (length t)
bytes-none {t} = let z : length t - 0 ≡ length t = omega arith in record { lie = omega arith; so_far = rw z }

module _ {t : List ℕ} {i h : ℕ} (m : MixingBytes t i h) where
  pub byte_more : i < length t → {w g : ℕ} → w ≡ get_or t i 0 → g ≡ mixed h w → MixingBytes t (i + 1) g
  byte_more l e q = record { lie = omega arith; so_far = m.so_far ∙ one_more 1 1 (length t - i) t i h _ _ _ _ (omega arith) refl (e ∙ sym (word-one t i)) q }

  pub bytes-all : length t ≤ i → h ≡ of_bytes t
  unfolding of_bytes
  bytes-all l = sym (m.so_far ∙ no_more 1 1 (length t - i) t i h (omega arith))

-- ---------------------------------------------------------------- the loop over words, two in a turn

-- the first k turns are done
pub record MixingWords (t : List ℕ) (k g h : ℕ) : Type 0 where
  pub even : every_other t 0 ≡ mixed_in 8 16 (length t / 16 - k) t (16 * k) g
  pub odd : every_other t 8 ≡ mixed_in 8 16 (length t / 16 - k) t (16 * k + 8) h

pub words-none : {t : List ℕ} → MixingWords t 0 (length t) (length t)
words-none {t} = let z : length t / 16 - 0 ≡ length t / 16 = omega arith in record { even = rw z; odd = rw z }

module _ {t : List ℕ} {k g h : ℕ} (m : MixingWords t k g h) where
  pub words_more : k < length t / 16 → {x y p q : ℕ} → x ≡ word 8 t (16 * k) 0 → p ≡ mixed g x → y ≡ word 8 t (16 * k + 8) 0 → q ≡ mixed h y → MixingWords t (k + 1) p q
  words_more l e d f r =
      record {
        even = m.even ∙ one_more 8 16 _ t (16 * k) g _ _ _ _ (omega arith) (omega arith) e d;
        odd = m.odd ∙ one_more 8 16 _ t (16 * k + 8) h _ _ _ _ (omega arith) (omega arith) f r;
      }

  -- after them, the last two words
  pub words-all : length t / 16 ≤ k → {b x y u v r : ℕ} → b ≡ length t - 8 - 8 → x ≡ word 8 t b 0 → u ≡ mixed g x → y ≡ word 8 t (length t - 8) 0 → v ≡ mixed u y → r ≡ mixed v h
      → r ≡ of_words t
  unfolding of_words
  words-all l {b} eb ex eu ey ev er =
      er ∙ ap₂ mixed
      (ev ∙ ap₂ mixed (eu ∙ ap₂ mixed (sym (m.even ∙ no_more 8 16 _ t (16 * k) g (omega arith))) (ex ∙ ap (λ j. word 8 t j 0) (omega arith))) ey)
      (sym (m.odd ∙ no_more 8 16 _ t (16 * k + 8) h (omega arith)))

-- ---------------------------------------------------------------- the sum fits

halves-fit : (a b : ℕ) → a ≤ 4294967295 → b ≤ 4294967295 → a * 2654435761 + b < 18446744073709551616
halves-fit a b l m = omega arith

low_half : (x : ℕ) → x % 4294967296 ≤ 4294967295
low_half x = omega arith

high_half : (x : ℕ) → x < 18446744073709551616 → x / 4294967296 ≤ 4294967295
high_half x l = omega arith

pub mix-fits : (h w : ℕ) → h < 18446744073709551616 → w < 18446744073709551616 → bit_xor h w % 4294967296 * 2654435761 + bit_xor h w / 4294967296 < 18446744073709551616
mix-fits h w l m = halves-fit _ _ (low_half (bit_xor h w)) (high_half (bit_xor h w) (xor_lt 64 h w l m))
