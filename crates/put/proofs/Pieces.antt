-- The words of a line: bytes and texts from a place on, the digits of a number, the names of the storages.
use Prim.Native.Nat.{ℕ, zero, suc, ◌+◌, ◌*◌, ◌/◌, ◌%◌, ◌≤◌, ◌<◌}
use native.Mathlib.Numerals.{add-one}
use native.Mathlib.Omega.{arith}
use mathlib.Core.List.{List, [], ◌∷◌, ◌++◌}
use mathlib.Core.Bool.{Bool, true, false, cond, ◌&&◌, not}
use mathlib.Core.Path.{◌≡◌, refl, sym, ap, ◌∙◌}
use lib.ListN.{length, drop, get_or, drop_of_length-le}
use lib.Seq.{drop-cons}
use lib.Dec.{ltb, eqb}
use borrow.Author.Tests.{lt-ltb, le-ltb}
use Rattle.std.specs.Char.{is_ascii_graphic}
use Rattle.meaning.specs.Text.{within}
use Rattle.meaning.specs.Listing.{digits, decimal, hex, shown, shown_text}

-- ---- bytes from a place on

module _ (w : List ℕ) (i : ℕ) where
  pub next : i < length w → drop i w ≡ (get_or w i 0 ∷ []) ++ drop (i + 1) w
  next h = drop-cons w i 0 h ∙ ap (λ (k : ℕ). get_or w i 0 ∷ drop k w) (sym (add-one i))

  pub at-end : length w ≤ i → drop i w ≡ []
  at-end h = drop_of_length-le w h

  pub next-shown : i < length w → shown_text (drop i w) ≡ shown (get_or w i 0) ++ shown_text (drop (i + 1) w)
  unfolding shown_text
  next-shown h = ap shown_text (next h)

  pub shown-end : length w ≤ i → shown_text (drop i w) ≡ []
  unfolding shown_text
  shown-end h = ap shown_text (at-end h)

-- ---- one shown byte

module _ (b : ℕ) where
  pub graphic : {r : Bool} → r ≡ is_ascii_graphic b → r ≡ true → not (eqb b 92) ≡ within 33 126 b && not (eqb b 92)
  unfolding within
  graphic e t = rw (sym e ∙ t)

  pub not-graphic : {r : Bool} → r ≡ is_ascii_graphic b → r ≡ false → r ≡ within 33 126 b && not (eqb b 92)
  unfolding within
  not-graphic e t = t ∙ (rw (sym e ∙ t))

  pub shown-plain : within 33 126 b && not (eqb b 92) ≡ true → b ∷ [] ≡ shown b
  unfolding shown
  shown-plain e = rw e refl

  pub shown-escaped : (h l : ℕ) → within 33 126 b && not (eqb b 92) ≡ false → h ≡ hex (b / 16) → l ≡ hex (b % 16) → 92 ∷ h ∷ l ∷ [] ≡ shown b
  unfolding shown
  shown-escaped h l e p q = rw (e, p, q) refl

-- ---- the digits of a number

tens : ℕ → ℕ
tens zero = 10
tens (suc k) = 10 * tens k

-- digits that aren't needed aren't printed
digits_more : (k n : ℕ) → n < tens k → digits k n ≡ digits (suc k) n
unfolding digits tens
digits_more zero n h = rw (lt-ltb n 10 h) refl
digits_more (suc k) n h = ap (λ (ds : List ℕ). cond (ltb n 10) ((48 + n) ∷ []) (ds ++ (48 + n % 10) ∷ [])) (digits_more k (n / 10) (omega (arith, h)))

pub decimal-one : (n : ℕ) → n < 10 → (48 + n) ∷ [] ≡ decimal n
unfolding decimal digits
decimal-one n h = rw (lt-ltb n 10 h) refl

few : (n : ℕ) → n < 18446744073709551616 → n / 10 < tens 18
unfolding tens
few n h = omega (arith, h)

pub decimal-more : (n : ℕ) → n < 18446744073709551616 → 10 ≤ n → decimal (n / 10) ++ (48 + n % 10) ∷ [] ≡ decimal n
unfolding decimal digits
decimal-more n s h =
    ap (λ (ds : List ℕ). ds ++ (48 + n % 10) ∷ []) (sym (digits_more 18 (n / 10) (few n s)))
    ∙ sym (ap (λ (b : Bool). cond b ((48 + n) ∷ []) (digits 18 (n / 10) ++ (48 + n % 10) ∷ [])) (le-ltb n 10 h))
