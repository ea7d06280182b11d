-- What is asked of a map, test by test.
use Prim.Native.Nat.{ℕ, zero, suc, ◌+◌, ◌-◌, ◌*◌, ◌/◌, ◌^◌, ◌<◌}
use native.Mathlib.Omega.{arith}
use mathlib.Core.List.{List, [], ◌∷◌}
use mathlib.Core.Bool.{true, false, ◌&&◌}
use mathlib.Core.Path.{◌≡◌, refl, sym, ap, ◌∙◌}
use lib.ListN.{length, get_or}
use lib.Dec.{eqb}
use borrow.Author.Tests.{eq-eqb, ne_eqb}
use Rattle.meaning.specs.Read.{Outcome, got, refused, item, no_note}
use Rattle.meaning.specs.Sound.{begins_as_map, fills_or_deep, a_map}
use Rattle.cbor.specs.Ending.{FAULT, code, ending}
use Rattle.rows.proofs.Both.{same-equality}

-- ---- one map

module _ {A : Type 0} (s : List ℕ) (some : 0 < length s) (short : length s * 1 < 2 ^ 63) where
  fills : (o : Outcome A) → code (ending s o) ≡ length s → fills_or_deep o ≡ true
  unfolding fills_or_deep
  fills (got t []) e = refl
  fills (got t (b ∷ r)) e = absurd (omega (arith, some, e))
  fills (refused n q) e = absurd (omega (arith, short, e))

  deep-only : (o : Outcome A) → (code (ending s o) ≡ length s → ⊥) → eqb (code (ending s o)) (FAULT + 7) ≡ fills_or_deep o
  unfolding fills_or_deep
  deep-only (got t []) e = absurd (e (omega arith))
  deep-only (got t (b ∷ r)) e = ne_eqb (length s - suc (length r)) (FAULT + 7) (λ z. omega (arith, short, z))
  deep-only (refused n q) e = same-equality (FAULT + n) (FAULT + 7) n 7 (λ z. omega (arith, z)) (λ z. omega (arith, z))

module _ (levels : ℕ) (s : List ℕ) where
  pub empty-no-map : length s ≡ 0 → false ≡ a_map levels s
  unfolding a_map begins_as_map
  empty-no-map e = by s e
    where
      by : (s : List ℕ) → length s ≡ 0 → false ≡ begins_as_map s && fills_or_deep (item no_note levels s)
      by [] e = refl
      by (b ∷ r) e = absurd (omega arith)

  begins : (s : List ℕ) → (length s ≡ 0 → ⊥) → begins_as_map s ≡ eqb (get_or s 0 0 / 32) 5
  unfolding begins_as_map
  begins [] h = absurd (h refl)
  begins (b ∷ r) h = refl

  -- the first byte's major type is k, and passing over an item answered r
  module _ (some : length s ≡ 0 → ⊥) {k : ℕ} (major : k ≡ get_or s 0 0 / 32) where
    pub other-no-map : (k ≡ 5 → ⊥) → false ≡ a_map levels s
    unfolding a_map
    other-no-map h = rw (begins s some, ne_eqb (get_or s 0 0 / 32) 5 (λ e. h (major ∙ e))) refl

    module _ (map-begins : k ≡ 5) (short : length s * 1 < 2 ^ 63) {r : ℕ} (is : r ≡ code (ending s (item no_note levels s))) where
      first : get_or s 0 0 / 32 ≡ 5
      first = sym major ∙ map-begins

      at_least_one : 0 < length s
      at_least_one = by (length s) refl
        where
          by : (n : ℕ) → length s ≡ n → 0 < n
          by zero e = absurd (some e)
          by (suc n) e = omega arith

      pub map-fills : r ≡ length s → true ≡ a_map levels s
      unfolding a_map
      map-fills e = rw (begins s some, eq-eqb (get_or s 0 0 / 32) 5 first, fills s at_least_one short (item no_note levels s) (sym is ∙ e)) refl

      pub by-deep : (r ≡ length s → ⊥) → eqb r (FAULT + 7) ≡ a_map levels s
      unfolding a_map
      by-deep e =
          rw (begins s some, eq-eqb (get_or s 0 0 / 32) 5 first)
          (ap (λ (n : ℕ). eqb n (FAULT + 7)) is ∙ deep-only s at_least_one short (item no_note levels s) (λ z. e (is ∙ z)))
