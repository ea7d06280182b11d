-- Bytes below 128 leave nothing to come in UTF-8, and a word without the highest bits has only such. Assumes nothing.
use mathlib.Core.Path.{◌≡◌, refl, sym, ap, ◌∙◌}
use mathlib.Core.List.{List}
use mathlib.Core.Bool.{Bool, true, false}
use Prim.Native.Nat.{ℕ, zero, suc, ◌+◌, ◌-◌, ◌*◌, ◌/◌, ◌%◌, ◌≤◌, ◌<◌}
use native.Mathlib.Omega.{arith}
use lib.ListN.{length, get_or, take, drop, length-drop}
use lib.Seq.{drop-drop}
use lib.Bits.{bit_and, and_block, and_high}
use lib.Dec.{ltb, eqb, lit<}
use borrow.Author.Tests.{ltb-true, ltb-false, eqb-true}
use borrow.Author.Rules.{part_to_end}
use Rattle.endian.specs.Word.{word}
use Rattle.meaning.specs.Text.{utf8}
use Rattle.utf8.specs.Lead.{ranges, Ends, Rest}
use Rattle.utf8.proofs.Utf8Steps.{Passed, passed_none, pass-low, passed-all, never_ends, ends_at}
use Rattle.text.proofs.WordsDecide.{Bytes, Known, known_bytes, word-part}

-- ---------------------------------------------------------------- the highest bits of a word

-- those of k bytes, after the number m
abbrev highest : ℕ → ℕ → ℕ
highest zero m = m
highest (suc k) m = highest k (m * 256 + 128)

low_byte : (x : ℕ) → x < 256 → bit_and x 128 ≡ 0 → x < 128
low_byte x l e = go (ltb x 128) refl (and_high x 1 7)
  where
    go : (t : Bool) → ltb x 128 ≡ t → bit_and x 128 ≡ (x / 128 % 2) * 128 → x < 128
    go true q h = ltb-true x 128 q
    go false q h = let u = ltb-false x 128 q in let z : x / 128 ≡ 1 = omega arith in let y : bit_and x 128 ≡ 128 = rw z at h in absurd (omega arith)

-- the bytes from i up to j are below 128
abbrev Low : List ℕ → ℕ → ℕ → Type 0
Low s i j = (n : ℕ) → i ≤ n → n < j → get_or s n 0 < 128

module _ (s : List ℕ) (hs : Bytes s) where
  low-bytes : (k i a m : ℕ) → bit_and (word k s i a) (highest k m) ≡ 0 → (bit_and a m ≡ 0) × Low s i (i + k)
  unfolding word
  low-bytes zero i a m e = (e, λ j l n. absurd (omega arith))
  low-bytes (suc k) i a m e =
      let x = get_or s i 0 in
      let ih = low-bytes k (suc i) (a * 256 + x) (m * 256 + 128) e in
      let q : bit_and (a * 256 + x) (m * 256 + 128) ≡ bit_and a m * 256 + bit_and x 128 = and_block 8 a m x 128 (hs i) (lit< tt) in
      let p = ih.0 in
      (omega arith, λ j l n. go j l n (omega arith) (ltb i j) refl ih.1)
    where
      go : (j : ℕ) → i ≤ j → j < i + suc k → bit_and (get_or s i 0) 128 ≡ 0 → (b : Bool) → ltb i j ≡ b → Low s (suc i) (suc i + k) → get_or s j 0 < 128
      go j l n z true q ih = ih j (omega (arith, ltb-true i j q)) (omega arith)
      go j l n z false q ih = let y : j ≡ i = omega (arith, ltb-false i j q) in rw y (low_byte (get_or s i 0) (hs i) z)

-- ---------------------------------------------------------------- what is left to say after them

-- nothing must come: all up to i are whole characters
abbrev pub Whole : List ℕ → ℕ → Type 0
Whole t i = Passed t i 0 128 191

whole_run : {t : List ℕ} (k : ℕ) {i j : ℕ} → Whole t i → j ≡ i + k → j ≤ length t → Low t i j → Whole t j
whole_run zero {i} {j} h e l m = let z : j ≡ i = omega arith in rw z h
whole_run (suc k) {i} h e l m = whole_run k (pass-low h (omega arith) refl refl (m i (omega arith) (omega arith))) (omega arith) l (λ n x y. m n (omega arith) y)

-- the word of k bytes at p, which stands at i or before, reaches beyond it
whole_word : {t : List ℕ} {i : ℕ} → Whole t i → Bytes t → (k p : ℕ) {x : ℕ} → x ≡ word k t p 0 → bit_and x (highest k 0) ≡ 0 → p ≤ i → i ≤ p + k → p + k ≤ length t → Whole t (p + k)
whole_word {t} {i} h ht k p e z l m n =
    let low = (low-bytes t ht k p 0 0 (ap (λ u. bit_and u (highest k 0)) (sym e) ∙ z)).1 in
    whole_run (p + k - i) h (omega arith) n (λ j x y. low j (omega arith) y)

-- where all up to k is whole, the rest decides, and the other way
whole-rest : {t : List ℕ} {k : ℕ} → Whole t k → Rest t k
unfolding utf8 ranges
whole-rest h = record { inside = h.inside; decides = h.left.says }

rest-is-whole : {t : List ℕ} {k : ℕ} → Rest t k → Whole t k
unfolding utf8 ranges
rest-is-whole r = record { inside = r.inside; left = record { says = r.decides } }

-- ---------------------------------------------------------------- words

-- those that `low_at_first` read
pub four_low : (t : List ℕ) → Known t → 32 ≤ length t → {x₀ x₁ x₂ x₃ : ℕ} → x₀ ≡ word 8 t 0 0 → bit_and x₀ (highest 8 0) ≡ 0 → x₁ ≡ word 8 t 8 0 → bit_and x₁ (highest 8 0) ≡ 0
    → x₂ ≡ word 8 t 16 0 → bit_and x₂ (highest 8 0) ≡ 0 → x₃ ≡ word 8 t 24 0 → eqb (bit_and x₃ (highest 8 0)) 0 ≡ true → Rest t 32
four_low t known l e₀ z₀ e₁ z₁ e₂ z₂ e₃ z₃ =
    let b = known_bytes t known in
    let one = whole_word passed_none b 8 0 e₀ z₀ (omega arith) (omega arith) (omega arith) in
    let two = whole_word one b 8 8 e₁ z₁ (omega arith) (omega arith) (omega arith) in
    let three = whole_word two b 8 16 e₂ z₂ (omega arith) (omega arith) (omega arith) in
    whole-rest (whole_word three b 8 24 e₃ (eqb-true _ _ z₃) (omega arith) (omega arith) (omega arith))

pub not-said : {t : List ℕ} {k : ℕ} → false ≡ true → Rest t k
not-said e = let z : ◌≡◌ {A = ℕ} 0 1 = cc in absurd (omega arith)

-- words read from a part that begins at the word
pub word_low : {t : List ℕ} {i : ℕ} → Whole t i → Known t → i < length t - 8 → {x : ℕ} → x ≡ word 8 (take (length t - i) (drop i t)) 0 0 → bit_and x (highest 8 0) ≡ 0 → Whole t (i + 8)
word_low {t} {i} h b l e z = whole_word h (known_bytes t b) 8 i (e ∙ word-part 8 t i) z (omega arith) (omega arith) (omega arith)

pub last-word-low : {t : List ℕ} {i : ℕ} → Whole t i → Known t → 8 ≤ length t → length t - 8 ≤ i → {x : ℕ} → x ≡ word 8 (take (length t - (length t - 8)) (drop (length t - 8) t)) 0 0
    → bit_and x (highest 8 0) ≡ 0 → true ≡ utf8 t
last-word-low {t} {i} h b m l e z = passed-all (whole_word h (known_bytes t b) 8 (length t - 8) (e ∙ word-part 8 t (length t - 8)) z l (let n = h.inside in omega arith) (omega arith)) (omega arith)

pub halves-low : (t : List ℕ) → Known t → 4 ≤ length t → length t ≤ 8 → {x y : ℕ} → x ≡ word 4 (take (length t - 0) (drop 0 t)) 0 0 → bit_and x (highest 4 0) ≡ 0
    → y ≡ word 4 (take (length t - (length t - 4)) (drop (length t - 4) t)) 0 0 → bit_and y (highest 4 0) ≡ 0 → true ≡ utf8 t
halves-low t known l m e z f o =
    let b = known_bytes t known in
    let one = whole_word passed_none b 4 0 (e ∙ word-part 4 t 0) z (omega arith) (omega arith) (omega arith) in
    passed-all (whole_word one b 4 (length t - 4) (f ∙ word-part 4 t (length t - 4)) o (omega arith) (omega arith) (omega arith)) (omega arith)

-- ---------------------------------------------------------------- the part from i on

pub whole-of-all : {t : List ℕ} {k : ℕ} → Rest (take (length t - 0) (drop 0 t)) k → Whole t k
whole-of-all {t} {k} r = rest-is-whole (rw (part_to_end t 0) at r)

pub all-decides : (t : List ℕ) {r : Bool} → r ≡ utf8 (take (length t - 0) (drop 0 t)) → r ≡ utf8 t
all-decides t e = e ∙ ap utf8 (part_to_end t 0)

from-part : (t : List ℕ) (i k : ℕ) → utf8 (take (length t - i) (drop i t)) ≡ utf8 (drop k (take (length t - i) (drop i t))) → utf8 (drop i t) ≡ utf8 (drop (i + k) t)
from-part t i k e = ap utf8 (sym (part_to_end t i)) ∙ e ∙ ap (λ l. utf8 (drop k l)) (part_to_end t i) ∙ ap utf8 (drop-drop k i t)

pub pass-first-low : {t : List ℕ} {i : ℕ} → Whole t i → 8 ≤ length t → i < 8 → get_or t i 0 < 128 → Whole t (i + 1)
pass-first-low h l m q = pass-low h (omega arith) refl refl q

pub eight-end : {t : List ℕ} {i : ℕ} → Whole t i → 8 ≤ i → Ends t 8 i
eight-end h l = ends_at h.left l (omega arith) h.inside

-- after whole characters, the same of the part from there on is the same of all
module _ {t : List ℕ} {i : ℕ} (h : Whole t i) where
  rest-is : utf8 t ≡ utf8 (drop i t)
  unfolding utf8 ranges
  rest-is = h.left.says

  pub rest-decides : {r : Bool} → r ≡ utf8 (take (length t - i) (drop i t)) → r ≡ utf8 t
  rest-decides e = e ∙ ap utf8 (part_to_end t i) ∙ sym rest-is

  module _ {n k : ℕ} (e : Ends (take (length t - i) (drop i t)) n k) where
    pub rest-wrong : k ≡ 0 → false ≡ utf8 t
    rest-wrong z = sym (rest-is ∙ ap utf8 (sym (part_to_end t i)) ∙ e.wrong z)

    pub never-ends-here : {o : ℕ} → k ≡ 0 → Ends t o 0
    never-ends-here z = never_ends (rest-wrong z)

    pub rest-inside : i + k ≤ length t
    rest-inside = let z : k ≤ length (drop i t) = rw (part_to_end t i) at e.inside in let l = h.inside in omega (arith, length-drop i t)

    pub rest-whole : (k ≡ 0 → ⊥) → Whole t (i + k)
    unfolding utf8 ranges
    rest-whole z = record { inside = rest-inside; left = record { says = rest-is ∙ from-part t i k (e.decides z) } }

-- ---------------------------------------------------------------- the loop of `low_on`: up to i all is whole, with `left` times 32 bytes to go

pub record LowUpTo (t : List ℕ) (i left : ℕ) : Type 0 where
  pub lie : i + 32 * left ≤ length t
  pub rest : Rest t i

pub low-none : {t : List ℕ} → LowUpTo t 0 (length t / 32)
low-none = record { lie = omega arith; rest = whole-rest passed_none }

pub low-more : {t : List ℕ} {i left : ℕ} → LowUpTo t i left → 0 < left → {r : Bool} → (r ≡ true → Rest (take (length t - i) (drop i t)) 32) → r ≡ true → LowUpTo t (i + 32) (left - 1)
low-more {t} {i} {left} w l e q = let m = w.lie in record { lie = omega arith; rest = record { inside = omega arith; decides = w.rest.decides ∙ from-part t i 32 (e q).decides } }
