-- Texts of bytes as numbers: equal numbers are equal texts. Assumes nothing.
use mathlib.Core.Path.{◌≡◌, refl, ap, ◌∙◌}
use mathlib.Core.List.{List, [], ◌∷◌}
use mathlib.Core.Bool.{Bool, true, false, ◌&&◌}
use Prim.Native.Nat.{ℕ, zero, suc, ◌+◌, ◌-◌, ◌*◌, ◌/◌, ◌^◌, ◌≤◌, ◌<◌}
use native.Mathlib.Omega.{arith}
use lib.ListN.{length, get_or, take, drop}
use lib.Dec.{ltb, eqb}
use borrow.Author.Tests.{eq-eqb, ne_eqb, eqb-true, eqb-false, ltb-true, lt-ltb}
use borrow.Author.Rules.{part_to_end}
use mir.Syntax.{w8}
use mir.Val.{Fits}
use Rattle.meaning.specs.Text.{same}
use Rattle.meaning.proofs.Tests.{both_left, both_right}
use Rattle.types.specs.Row.{tagged, four_at, bytes}

-- what is known of a slice of bytes
abbrev pub Known : List ℕ → Type 0
Known k = (i : ℕ) → Fits w8 (get_or k i 0)

known_bytes : (k : List ℕ) → Known k → (i : ℕ) → get_or k i 0 < 256
known_bytes k h i = omega (arith, h i)

-- ---------------------------------------------------------------- the number of a few bytes, and of four and the rest

pub tagged-none : (k : List ℕ) → length k ≡ 0 → 1 ≡ tagged k
unfolding tagged
tagged-none [] e = refl
tagged-none (a ∷ k) e = absurd (omega arith)

tagged-one : (k : List ℕ) → length k ≡ 1 → get_or k 0 0 + 256 ≡ tagged k
unfolding tagged
tagged-one [] e = absurd (omega arith)
tagged-one (a ∷ k) e = let z = tagged-none k (omega arith) in omega arith

tagged-two : (k : List ℕ) → length k ≡ 2 → get_or k 0 0 + get_or k 1 0 * 256 + 65536 ≡ tagged k
unfolding tagged
tagged-two [] e = absurd (omega arith)
tagged-two (a ∷ k) e = let z = tagged-one k (omega arith) in omega arith

tagged-three : (k : List ℕ) → length k ≡ 3 → get_or k 0 0 + get_or k 1 0 * 256 + get_or k 2 0 * 65536 + 16777216 ≡ tagged k
unfolding tagged
tagged-three [] e = absurd (omega arith)
tagged-three (a ∷ k) e = let z = tagged-two k (omega arith) in omega arith

tagged-four : (k : List ℕ) → 4 ≤ length k → get_or k 0 0 + get_or k 1 0 * 256 + get_or k 2 0 * 65536 + get_or k 3 0 * 16777216 + tagged (drop 4 k) * 4294967296 ≡ tagged k
unfolding tagged
tagged-four [] l = absurd (omega arith)
tagged-four (a ∷ []) l = absurd (omega arith)
tagged-four (a ∷ b ∷ []) l = absurd (omega arith)
tagged-four (a ∷ b ∷ c ∷ []) l = absurd (omega arith)
tagged-four (a ∷ b ∷ c ∷ d ∷ k) l = omega arith

-- of the last four of up to seven bytes, those that follow the first four, with the digit 1 above
tagged-late : (k : List ℕ) → 4 ≤ length k → length k ≤ 7 → ((i : ℕ) → get_or k i 0 < 256) → (v : ℕ) → v ≡ four_at k (length k - 4)
    → ((v + 4294967296) / 2 ^ (8 * (8 - length k)) ≡ tagged (drop 4 k)) × (tagged (drop 4 k) < 33554432)
unfolding tagged
tagged-late [] l m h v e = absurd (omega arith)
tagged-late (a ∷ []) l m h v e = absurd (omega arith)
tagged-late (a ∷ b ∷ []) l m h v e = absurd (omega arith)
tagged-late (a ∷ b ∷ c ∷ []) l m h v e = absurd (omega arith)
tagged-late (a ∷ b ∷ c ∷ d ∷ []) l m h v e = let p = h 0 in let q = h 1 in let r = h 2 in let s = h 3 in (omega arith, omega arith)
tagged-late (a ∷ b ∷ c ∷ d ∷ x ∷ []) l m h v e = let q = h 1 in let r = h 2 in let s = h 3 in let t = h 4 in (omega arith, omega arith)
tagged-late (a ∷ b ∷ c ∷ d ∷ x ∷ y ∷ []) l m h v e = let r = h 2 in let s = h 3 in let t = h 4 in let u = h 5 in (omega arith, omega arith)
tagged-late (a ∷ b ∷ c ∷ d ∷ x ∷ y ∷ z ∷ []) l m h v e = let s = h 3 in let t = h 4 in let u = h 5 in let w = h 6 in (omega arith, omega arith)
tagged-late (a ∷ b ∷ c ∷ d ∷ x ∷ y ∷ z ∷ o ∷ k) l m h v e = absurd (omega arith)

-- by the bytes that were read
module _ (k : List ℕ) where
  pub one-makes : length k ≡ 1 → {a : ℕ} → a ≡ get_or k 0 0 → a + 256 ≡ tagged k
  one-makes l x = let z = tagged-one k l in omega arith

  pub two-make : length k ≡ 2 → {a b : ℕ} → a ≡ get_or k 0 0 → b ≡ get_or k 1 0 → a + b * 256 + 65536 ≡ tagged k
  two-make l x y = let z = tagged-two k l in omega arith

  pub three-make : length k ≤ 3 → (length k ≡ 0 → ⊥) → (length k ≡ 1 → ⊥) → (length k ≡ 2 → ⊥) → {a b c : ℕ} → a ≡ get_or k 0 0 → b ≡ get_or k 1 0 → c ≡ get_or k 2 0
      → a + b * 256 + c * 65536 + 16777216 ≡ tagged k
  three-make m n₀ n₁ n₂ x y z = let q = tagged-three k (omega arith) in omega arith

  pub four-and-rest : 4 ≤ length k → {x y : ℕ} → x ≡ four_at k 0 → y ≡ tagged (drop 4 k) → x + y * 4294967296 ≡ tagged k
  four-and-rest l p q = let z = tagged-four k l in omega arith

  pub whole-tagged : {r : ℕ} → r ≡ tagged (take (length k - 0) (drop 0 k)) → r ≡ tagged k
  whole-tagged e = e ∙ ap tagged (part_to_end k 0)

  module _ (known : Known k) (l : 4 ≤ length k) (m : length k ≤ 7) {v : ℕ} (e : v ≡ four_at k (length k - 4)) where
    late : ((v + 4294967296) / 2 ^ (8 * (8 - length k)) ≡ tagged (drop 4 k)) × (tagged (drop 4 k) < 33554432)
    late = tagged-late k l m (known_bytes k known) v e

    pub late-makes : (v + 4294967296) / 2 ^ (8 * (8 - length k)) ≡ tagged (drop 4 k)
    late-makes = late.0

    pub late-small : (v + 4294967296) / 2 ^ (8 * (8 - length k)) < 33554432
    late-small = let z = late in omega arith

-- ---------------------------------------------------------------- texts of bytes

bytes_of : (k : List ℕ) → ((i : ℕ) → get_or k i 0 < 256) → bytes k ≡ true
bytes_of [] h = refl
bytes_of (b ∷ s) h = rw (lt-ltb b 256 (h 0)) (bytes_of s (λ i. h (suc i)))

pub known-all : (k : List ℕ) → Known k → bytes k ≡ true
known-all k h = bytes_of k (known_bytes k h)

pub bytes_take : (n : ℕ) (k : List ℕ) → bytes k ≡ true → bytes (take n k) ≡ true
bytes_take zero k e = refl
bytes_take (suc n) [] e = refl
bytes_take (suc n) (b ∷ s) e = rw (both_left (ltb b 256) (bytes s) e) (bytes_take n s (both_right (ltb b 256) (bytes s) e))

pub bytes_drop : (n : ℕ) (k : List ℕ) → bytes k ≡ true → bytes (drop n k) ≡ true
bytes_drop zero k e = e
bytes_drop (suc n) [] e = refl
bytes_drop (suc n) (b ∷ s) e = bytes_drop n s (both_right (ltb b 256) (bytes s) e)

pub tagged-some : (k : List ℕ) → 0 < tagged k
unfolding tagged
tagged-some [] = omega arith
tagged-some (b ∷ s) = let x = tagged-some s in omega arith

-- two digits are equal where their numbers are
digit : (x y a b : ℕ) → x < 256 → y < 256 → eqb (x + 256 * a) (y + 256 * b) ≡ (eqb x y && eqb a b)
digit x y a b h g = go (eqb x y) refl (eqb a b) refl
  where
    go : (s : Bool) → eqb x y ≡ s → (t : Bool) → eqb a b ≡ t → eqb (x + 256 * a) (y + 256 * b) ≡ (s && t)
    go true p true q = let u = eqb-true x y p in let v = eqb-true a b q in eq-eqb (x + 256 * a) (y + 256 * b) (omega arith)
    go true p false q = ne_eqb _ _ (λ (e : x + 256 * a ≡ y + 256 * b). eqb-false a b q (omega arith))
    go false p t q = ne_eqb _ _ (λ (e : x + 256 * a ≡ y + 256 * b). eqb-false x y p (omega arith))

-- the law: equal numbers are equal texts
pub tagged-same : (a b : List ℕ) → bytes a ≡ true → bytes b ≡ true → eqb (tagged a) (tagged b) ≡ same a b
unfolding tagged
tagged-same [] [] h g = refl
tagged-same [] (y ∷ ys) h g = let x = tagged-some ys in ne_eqb _ _ (λ (e : 1 ≡ y + 256 * tagged ys). omega arith)
tagged-same (x ∷ xs) [] h g = let y = tagged-some xs in ne_eqb _ _ (λ (e : x + 256 * tagged xs ≡ 1). omega arith)
tagged-same (x ∷ xs) (y ∷ ys) h g =
    digit x y (tagged xs) (tagged ys) (ltb-true x 256 (both_left (ltb x 256) (bytes xs) h)) (ltb-true y 256 (both_left (ltb y 256) (bytes ys) g))
    ∙ ap (λ t. eqb x y && t) (tagged-same xs ys (both_right (ltb x 256) (bytes xs) h) (both_right (ltb y 256) (bytes ys) g))
