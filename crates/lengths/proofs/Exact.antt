-- Products and quotients of numbers, exact. Assumes nothing.
use mathlib.Core.Path.{◌≡◌, refl, sym, ap, ◌∙◌}
use mathlib.Core.List.{List, [], ◌∷◌}
use mathlib.Core.Bool.{Bool, true, false, ◌||◌}
use Prim.Native.Nat.{ℕ, zero, suc, ◌+◌, ◌-◌, ◌*◌, ◌/◌, ◌%◌, ◌≤◌, ◌<◌}
use native.Mathlib.Numerals.{add-one}
use native.Mathlib.Omega.{arith}
use native.Mathlib.Nat.{mul-one, add-mul, mul-le-mul_right, mul_comm, mul_assoc, zero-mul, mul-le-mul, le-mul_of_pos_right, mul-zero, div-mul-le_self, lt-div-mul-add, mul-mod_right, mod-zero, div-zero, mul-pos}
use lib.ListN.{length, get_or, take, drop, drop_of_length-le}
use lib.Seq.{drop-cons}
use lib.Dec.{ltb, eqb}
use borrow.Author.Tests.{eq-eqb, ne_eqb, eqb-true, eqb-false, lt-ltb, le-ltb, ltb-true, ltb-false}
use borrow.Author.Rules.{part_to_end}
use Rattle.std.proofs.Common.{nat_eq}
use Rattle.std.specs.List.{list_any}
use Rattle.meaning.specs.Types.{product}

-- ---------------------------------------------------------------- a product and a bound

over-is : (m a b : ℕ) → 0 < a → ltb (m / a) b ≡ ltb m (a * b)
over-is m a b h = go (ltb (m / a) b) refl
  where
    go : (t : Bool) → ltb (m / a) b ≡ t → t ≡ ltb m (a * b)
    go true e =
        let x : m / a + 1 ≤ b = omega (arith, ltb-true (m / a) b e) in
        let y = mul-le-mul_right a x in let z = add-mul (m / a) 1 a in let w = mul_comm a b in
        sym (lt-ltb m (a * b) (omega (arith, lt-div-mul-add {a = m} h)))
    go false e =
        let x = mul-le-mul_right a (ltb-false (m / a) b e) in let w = mul_comm a b in
        sym (le-ltb m (a * b) (omega (arith, div-mul-le_self m a)))

pub small-over : (a b : ℕ) → a ≤ 4294967295 → b ≤ 4294967295 → false ≡ ltb 18446744073709551615 (a * b)
small-over a b h g = let x = mul-le-mul h g in sym (le-ltb 18446744073709551615 (a * b) (omega arith))

pub zero-over : (a b : ℕ) → a ≡ 0 → false ≡ ltb 18446744073709551615 (a * b)
zero-over a b e = rw (e, zero-mul b)

pub over-so : (a b : ℕ) → (a ≡ 0 → ⊥) → ltb (18446744073709551615 / a) b ≡ ltb 18446744073709551615 (a * b)
over-so a b h = over-is 18446744073709551615 a b (omega arith)

-- t says whether a × b is over 2^64 − 1
module _ (a b : ℕ) {t : Bool} (is : t ≡ ltb 18446744073709551615 (a * b)) where
  pub product-fits : t ≡ false → a * b < 18446744073709551616
  product-fits e = omega (arith, ltb-false 18446744073709551615 (a * b) (sym is ∙ e))

  above : t ≡ true → 18446744073709551615 < a * b
  above e = ltb-true 18446744073709551615 (a * b) (sym is ∙ e)

  pub product-beyond : (n : ℕ) → t ≡ true → n < 18446744073709551616 → false ≡ eqb n (a * b)
  product-beyond n e h = let x = above e in sym (ne_eqb n (a * b) (λ (z : n ≡ a * b). omega arith))

-- ---------------------------------------------------------------- the product of a shape

-- one of the numbers is 0: so is their product
any-zero : (s : List ℕ) → list_any (λ y. nat_eq y 0) s ≡ eqb (product s) 0
unfolding product
any-zero [] = refl
any-zero (x ∷ s) = go (any-zero s) (eqb x 0) refl (eqb (product s) 0) refl
  where
    go : list_any (λ y. nat_eq y 0) s ≡ eqb (product s) 0 → (t : Bool) → eqb x 0 ≡ t → (u : Bool) → eqb (product s) 0 ≡ u → (nat_eq x 0 || list_any (λ y. nat_eq y 0) s) ≡ eqb (x * product s) 0
    go h true e u d = let z = eqb-true x 0 e in rw (z, zero-mul (product s)) refl
    go h false e true d = let z : x * product s ≡ 0 = rw (eqb-true (product s) 0 d) (mul-zero x) in rw (e, h, d) (sym (eq-eqb _ 0 z))
    go h false e false d =
        let x' : 0 < x = omega (arith, eqb-false x 0 e) in
        let p' : 0 < product s = omega (arith, eqb-false (product s) 0 d) in
        let z = mul-pos x' p' in
        rw (e, h, d) (sym (ne_eqb (x * product s) 0 (λ (w : x * product s ≡ 0). omega arith)))

product-end : (s : List ℕ) (i : ℕ) → length s ≤ i → product (drop i s) ≡ 1
unfolding product
product-end s i h = rw (drop_of_length-le s h)

-- p is the product of the unit and the numbers before i
pub record Multiplied (s : List ℕ) (unit p i : ℕ) : Type 0 where
  pub inside : i ≤ length s
  pub so : product s * unit ≡ p * product (drop i s)

pub multiplied-none : {s : List ℕ} {unit : ℕ} → Multiplied s unit unit 0
multiplied-none {s} {unit} = record { inside = omega arith; so = mul_comm (product s) unit }

module _ {s : List ℕ} {unit p i : ℕ} (w : Multiplied s unit p i) where
  pub multiplied-all : (n : ℕ) → length s ≤ i → eqb n p ≡ eqb n (product s * unit)
  multiplied-all n h = rw (w.so, product-end s i h) (ap (eqb n) (sym (mul-one p)))

  module _ (h : i < length s) where
    one_more : product s * unit ≡ p * get_or s i 0 * product (drop (i + 1) s)
    unfolding product
    one_more = w.so ∙ rw (drop-cons s i 0 h, add-one) (sym (mul_assoc p (get_or s i 0) (product (drop (suc i) s))))

    pub multiplied-more : Multiplied s unit (p * get_or s i 0) (i + 1)
    multiplied-more = record { inside = omega arith; so = one_more }

    -- z says whether the rest has a zero
    module _ (n : ℕ) {z : Bool} (is : z ≡ list_any (λ y. nat_eq y 0) (take (length s - i) (drop i s))) where
      rest : {t : Bool} → z ≡ t → eqb (product (drop i s)) 0 ≡ t
      rest e = ap (λ l. eqb (product l) 0) (sym (part_to_end s i)) ∙ sym (any-zero _) ∙ sym is ∙ e

      pub zero_left : z ≡ true → eqb n 0 ≡ eqb n (product s * unit)
      zero_left e = rw (w.so, eqb-true (product (drop i s)) 0 (rest e)) (ap (eqb n) (sym (mul-zero p)))

      pub over-already : z ≡ false → n < 18446744073709551616 → {t : Bool} → t ≡ ltb 18446744073709551615 (p * get_or s i 0) → t ≡ true → false ≡ eqb n (product s * unit)
      unfolding product
      over-already e l o d =
          let q : product (drop i s) ≡ get_or s i 0 * product (drop (suc i) s) = rw (drop-cons s i 0 h) in
          let k = go (product (drop (suc i) s)) q in
          let x = le-mul_of_pos_right (p * get_or s i 0) k in
          let y = above p (get_or s i 0) o d in
          sym (ne_eqb n (product s * unit) (λ (u : n ≡ product s * unit). omega (arith, rw add-one at one_more)))
        where
          go : (r : ℕ) → product (drop i s) ≡ get_or s i 0 * r → 0 < r
          go zero q = absurd (eqb-false (product (drop i s)) 0 (rest e) (q ∙ mul-zero (get_or s i 0)))
          go (suc r) q = omega arith

-- ---------------------------------------------------------------- eights

pub pointer-over : (n rows : ℕ) → rows ≡ 18446744073709551615 → n < 18446744073709551616 → false ≡ eqb n (8 * (rows + 1))
pointer-over n rows e h = sym (ne_eqb n (8 * (rows + 1)) (λ (w : n ≡ 8 * (rows + 1)). omega arith))

module _ (n rank count : ℕ) where
  regroup : 8 * rank * count ≡ 8 * (rank * count)
  regroup = mul_assoc 8 rank count

  pub eights-odd : (n % 8 ≡ 0 → ⊥) → false ≡ eqb n (8 * rank * count)
  eights-odd h = rw regroup (sym (ne_eqb n (8 * (rank * count)) (λ (w : n ≡ 8 * (rank * count)). h (ap (λ (x : ℕ). x % 8) w ∙ mul-mod_right 8 (rank * count)))))

  pub eights-even : {r : Bool} → r ≡ eqb (n / 8) (rank * count) → n % 8 ≡ 0 → r ≡ eqb n (8 * rank * count)
  eights-even is h = is ∙ rw regroup (go (rank * count) (eqb (n / 8) (rank * count)) refl)
    where
      go : (p : ℕ) (t : Bool) → eqb (n / 8) p ≡ t → t ≡ eqb n (8 * p)
      go p true e = sym (eq-eqb n (8 * p) (omega (arith, eqb-true (n / 8) p e)))
      go p false e = sym (ne_eqb n (8 * p) (λ (w : n ≡ 8 * p). eqb-false (n / 8) p e (omega arith)))

-- ---------------------------------------------------------------- a unit of 0

pub whole-none : (n unit : ℕ) → unit ≡ 0 → eqb n 0 ≡ eqb (n % unit) 0
whole-none n unit e = rw e (ap (λ (x : ℕ). eqb x 0) (sym (mod-zero n)))

pub count_none : (n unit : ℕ) → unit ≡ 0 → 0 ≡ n / unit
count_none n unit e = rw e (sym (div-zero n))
