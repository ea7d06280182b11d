-- Digits that are cut off a number one by one, and what they say of its nearest nine digits.
use Prim.Native.Nat.{ℕ, zero, suc, ◌+◌, ◌*◌, ◌/◌, ◌%◌, ◌^◌, ◌≤◌, ◌<◌}
use native.Mathlib.Nat.{mul-add, mul_assoc, mul_comm, mul-suc, mul_left_comm, pow-suc, mul-le-mul_left, mul-le-mul_right, mul-pos, lt_of_le_of_lt, lt_of_lt_of_le, le_of_lt, mul-le-mul, mul-lt-mul_of_pos_right, mod-lt, div-add-mod'}
use native.Mathlib.Numerals.{add-one}
use native.Mathlib.Omega.{arith}
use mathlib.Core.List.{List}
use mathlib.Core.Bool.{Bool, true, false, cond}
use mathlib.Core.Logic.{⊎_elim}
use mathlib.Core.Path.{◌≡◌, refl, sym, ap, ◌∙◌}
use lib.Dec.{ltb, leb, eqb, lit<, lit≤}
use lib.Arith.{digits_div, digits_mod}
use lib.Pow.{pow-add, pow_mono}
use mir.Syntax.{w64}
use mir.Val.{Fits}
use lib.ListN.{get_or, set, replicate}
use Rattle.decimal.proofs.Glue.{limbs-set}
use borrow.Author.Tests.{lt-ltb, le-ltb, leb-true, leb-false, eq-eqb, ne_eqb}
use Rattle.endian.proofs.Which.{eq-or, lt-or}
use Rattle.decimal.proofs.Scale as scale
use Rattle.decimal.specs.Limbs.{value, Limbs, unit, billion, rounded, near}
use Rattle.decimal.specs.declared.digits.Decimal.{Decimal}
use Rattle.decimal.specs.Decimal.{nearest, place_of, digits_at, nine_of, decimal}
use Rattle.decimal.proofs.Believed.{ten-some}

-- The number all is value xs and something at this place: rest, whose digits were cut off. left is 1 exactly if it isn't 0.
pub record Cut (all : ℕ) (xs : List ℕ) (place left : ℕ) : Type 0 where
  pub limbs : Limbs xs
  pub rest : ℕ
  pub stands : all ≡ 10 ^ place * value xs + rest
  pub low : rest < 10 ^ place
  pub passed : (e : ℕ) → e < place → 10 ^ (9 + e) * unit ≤ all
  pub bit : left < 2
  pub none : left ≡ 0 → rest ≡ 0
  pub some : left ≡ 1 → 0 < rest

cut-first : (all : ℕ) (xs : List ℕ) → Limbs xs → value xs ≡ all → Cut all xs 0 0
cut-first all xs l e = record {
  limbs = l;
  rest = 0;
  stands = sym e ∙ one (value xs);
  low = lit< tt;
  passed = λ i h. absurd (omega arith);
  bit = lit< tt;
  none = λ z. refl;
  some = λ z. absurd (omega arith);
}
  where
    one : (v : ℕ) → v ≡ 1 * v + 0
    one v = omega arith

-- one more digit
split-digit : (t v w r s : ℕ) → v ≡ 10 * w + r → t * v + s ≡ t * 10 * w + (t * r + s)
split-digit t v w r s e =
    let a : t * v ≡ t * (10 * w) + t * r = ap (λ (k : ℕ). t * k) e ∙ mul-add t (10 * w) r in
    let b : t * 10 * w ≡ t * (10 * w) = mul_assoc t 10 w in
    omega arith

digit_low : (t r s : ℕ) → r < 10 → s < t → t * r + s < t * 10
digit_low t r s h l = let m : t * r ≤ t * 9 = mul-le-mul_left t (omega arith) in omega arith

reached : (t v s b : ℕ) → b ≤ v → t * b ≤ t * v + s
reached t v s b h = let m : t * b ≤ t * v = mul-le-mul_left t h in omega arith

billion-is : (p : ℕ) → 10 ^ p * billion ≡ 10 ^ (9 + p) * unit
billion-is p =
    sym (mul_assoc (10 ^ p) 1000000000 unit) ∙ ap (λ (k : ℕ). k * unit) (mul_comm (10 ^ p) 1000000000 ∙ sym (pow-add 10 9 p))

positive : (t r s : ℕ) → 0 < t → (r ≡ 0 → ⊥) → 0 < t * r + s
positive t r s h z = let m : 0 < t * r = mul-pos h (omega arith) in omega arith

nothing : (t r s : ℕ) → r ≡ 0 → s ≡ 0 → t * r + s ≡ 0
nothing t r s e z = rw (e, z) (mul-zero' t)
  where
    mul-zero' : (t : ℕ) → t * 0 + 0 ≡ 0
    mul-zero' t = omega arith

more : (s t : ℕ) → 0 < s → 0 < t + s
more s t h = omega arith

module _ {all : ℕ} {xs : List ℕ} {p left : ℕ} (w : Cut all xs p left) where
  cut-passed : leb billion (value xs) ≡ true → 10 ^ (9 + p) * unit ≤ all
  cut-passed h = rw (w.stands, ← billion-is p) (reached (10 ^ p) (value xs) w.rest billion (leb-true billion (value xs) h))

  pub cut-next : (b : Bool) → b ≡ leb billion (value xs) → b ≡ true → (ys : List ℕ) (r left' : ℕ) → Limbs ys → value xs ≡ 10 * value ys + r → r < 10
      → (r ≡ 0 → left' ≡ left) → ((r ≡ 0 → ⊥) → left' ≡ 1) → Cut all ys (p + 1) left'
  cut-next large is met ys r left' l e b z n = record {
    limbs = l;
    rest = 10 ^ p * r + w.rest;
    stands = w.stands ∙ (split-digit (10 ^ p) (value xs) (value ys) r w.rest e ∙ ap (λ (k : ℕ). k * value ys + (10 ^ p * r + w.rest)) (sym (pow-suc 10 p) ∙ ap (λ (k : ℕ). 10 ^ k) (sym (add-one p))));
    low = rw (add-one p, pow-suc 10 p) (digit_low (10 ^ p) r w.rest b w.low);
    passed = λ i k. ⊎_elim (λ (q : i < p). w.passed i q) (λ (q : p ≤ i). rw (same i k q) (cut-passed (sym is ∙ met))) (lt-or i p);
    bit = ⊎_elim (λ (q : r ≡ 0). rw (z q) w.bit) (λ (q : r ≡ 0 → ⊥). rw (n q) (lit< tt)) (eq-or r 0);
    none = λ y. ⊎_elim (λ (q : r ≡ 0). nothing (10 ^ p) r w.rest q (w.none (sym (z q) ∙ y))) (λ (q : r ≡ 0 → ⊥). absurd (clash left' y (n q))) (eq-or r 0);
    some = λ y. ⊎_elim (λ (q : r ≡ 0). more w.rest (10 ^ p * r) (w.some (sym (z q) ∙ y))) (λ (q : r ≡ 0 → ⊥). positive (10 ^ p) r w.rest (ten-some p) q) (eq-or r 0);
  }
    where
      same : (i : ℕ) → i < p + 1 → p ≤ i → i ≡ p
      same i k q = omega arith

      clash : (k : ℕ) → k ≡ 0 → k ≡ 1 → ⊥
      clash k a b = omega arith

  -- the loop ends: fewer than nine digits more
  pub cut_small : (b : Bool) → b ≡ leb billion (value xs) → b ≡ false → value xs < billion
  cut_small b is no_more = leb-false billion (value xs) (sym is ∙ no_more)

  cut_below : leb billion (value xs) ≡ false → all < 10 ^ (9 + p) * unit
  cut_below h =
      let a : suc (value xs) ≤ billion = leb-false billion (value xs) h in
      let b : 10 ^ p * suc (value xs) ≤ 10 ^ p * billion = mul-le-mul_left (10 ^ p) a in
      rw (w.stands, ← billion-is p) (lt_of_lt_of_le (within (10 ^ p) (value xs) w.rest w.low) b)
    where
      within : (t v s : ℕ) → s < t → t * v + s < t * suc v
      within t v s h = rw (mul-suc t v) (omega arith)

  -- and it ends soon
  cut-soon : all < 16777216 * 2 ^ 253 * 5 ^ 53 → p < 84
  cut-soon h = ⊎_elim (λ (q : 83 < p). absurd (far (lt_of_le_of_lt (w.passed 83 q) h))) (λ (q : p ≤ 83). soon q) (lt-or 83 p)
    where
      soon : p ≤ 83 → p < 84
      soon q = omega arith

      itself : (a : ℕ) → a < a → ⊥
      itself a h = omega arith

      far : 10 ^ 92 * unit < 16777216 * 2 ^ 253 * 5 ^ 53 → ⊥
      far q = itself (10 ^ 92 * unit) (lt_of_lt_of_le q (lit≤ tt))

-- the first place that suffices
place_is : (f k p n c : ℕ) → k ≤ p → p ≤ k + f → ((e : ℕ) → e < p → 10 ^ (9 + e) * c ≤ n) → n < 10 ^ (9 + p) * c → place_of f k n c ≡ p
unfolding place_of
place_is zero k p n c a b l d = omega arith
place_is (suc f) k p n c a b l d = ⊎_elim (λ (q : k < p). rw (le-ltb n (10 ^ (9 + k) * c) (l k q)) (place_is f (suc k) p n c q (grown k f p b) l d)) (λ (q : p ≤ k). here (between k p a q)) (lt-or k p)
  where
    grown : (k f p : ℕ) → p ≤ k + suc f → p ≤ suc k + f
    grown k f p h = omega arith

    between : (k p : ℕ) → k ≤ p → p ≤ k → k ≡ p
    between k p a b = omega arith

    here : k ≡ p → cond (ltb n (10 ^ (9 + k) * c)) k (place_of f (suc k) n c) ≡ p
    here e = rw (e, lt-ltb n (10 ^ (9 + p) * c) d)

-- rounding
module _ (q x c : ℕ) where
  rounded-down : x < c → rounded q x c ≡ q
  unfolding rounded
  rounded-down h = rw (lt-ltb x c h)

  rounded-up : c < x → rounded q x c ≡ q + 1
  unfolding rounded
  rounded-up h = rw (le-ltb x c (le_of_lt h), lt-ltb c x h)

  rounded-even : x ≡ c → rounded q x c ≡ q + q % 2
  unfolding rounded
  rounded-even e = rw (le-ltb x c (rw e (le-refl' c)), le-ltb c x (rw e (le-refl' c)))
    where
      le-refl' : (c : ℕ) → c ≤ c
      le-refl' c = omega arith

-- what was cut off weighs less than one of the digits that are left: t * f + s against t * h, as f against h with a bit more
module _ (q t f s h left : ℕ) (l : s < t) (b : left < 2) (z : left ≡ 0 → s ≡ 0) (o : left ≡ 1 → 0 < s) where
  weigh-below : f < h → rounded q (2 * (t * f + s)) (t * (2 * h)) ≡ rounded q (2 * f + left) (2 * h)
  weigh-below p =
      let m : t * suc f ≤ t * h = mul-le-mul_left t p in
      let k : t * suc f ≡ t * f + t = mul-suc t f in
      let g : t * (2 * h) ≡ 2 * (t * h) = mul_left_comm t 2 h in
      rounded-down q _ _ (omega arith) ∙ sym (rounded-down q _ _ (omega arith))

  weigh-above : h < f → rounded q (2 * (t * f + s)) (t * (2 * h)) ≡ rounded q (2 * f + left) (2 * h)
  weigh-above p =
      let m : t * suc h ≤ t * f = mul-le-mul_left t p in
      let k : t * suc h ≡ t * h + t = mul-suc t h in
      let g : t * (2 * h) ≡ 2 * (t * h) = mul_left_comm t 2 h in
      rounded-up q _ _ (omega arith) ∙ sym (rounded-up q _ _ (omega arith))

  weigh-level : f ≡ h → rounded q (2 * (t * f + s)) (t * (2 * h)) ≡ rounded q (2 * f + left) (2 * h)
  weigh-level e = ⊎_elim even up (eq-or left 0)
    where
      g : t * (2 * h) ≡ 2 * (t * f)
      g = rw e (mul_left_comm t 2 h)

      even : left ≡ 0 → rounded q (2 * (t * f + s)) (t * (2 * h)) ≡ rounded q (2 * f + left) (2 * h)
      even y = let n : s ≡ 0 = z y in rounded-even q _ _ (omega (arith, g)) ∙ sym (rounded-even q _ _ (omega arith))

      up : (left ≡ 0 → ⊥) → rounded q (2 * (t * f + s)) (t * (2 * h)) ≡ rounded q (2 * f + left) (2 * h)
      up y = let n : 0 < s = o (omega arith) in rounded-up q _ _ (omega (arith, g)) ∙ sym (rounded-up q _ _ (omega arith))

  weigh : rounded q (2 * (t * f + s)) (t * (2 * h)) ≡ rounded q (2 * f + left) (2 * h)
  weigh = ⊎_elim weigh-below (λ (p : h ≤ f). ⊎_elim (λ (y : h < f). weigh-above y) (λ (y : f ≤ h). weigh-level (omega arith)) (lt-or h f)) (lt-or f h)

below-unit : (t u f s : ℕ) → f < u → s < t → t * f + s < t * u
below-unit t u f s h l =
    let m : t * suc f ≤ t * u = mul-le-mul_left t h in
    let k : t * suc f ≡ t * f + t = mul-suc t f in
    omega arith

regrouped : (t u q f s v : ℕ) → v ≡ q * u + f → t * v + s ≡ q * (t * u) + (t * f + s)
regrouped t u q f s v e =
    let a : t * v ≡ t * (q * u) + t * f = ap (λ (k : ℕ). t * k) e ∙ mul-add t (q * u) f in
    let b : t * (q * u) ≡ q * (t * u) = mul_left_comm t q u in
    omega arith

module _ {all : ℕ} {xs : List ℕ} {p left : ℕ} (w : Cut all xs p left) where
  cut-nearest : nearest all (10 ^ p * unit) ≡ near (value xs) left
  unfolding nearest near
  cut-nearest =
      let e : all ≡ value xs / unit * (10 ^ p * unit) + (10 ^ p * (value xs % unit) + w.rest) = w.stands ∙ regrouped (10 ^ p) unit (value xs / unit) (value xs % unit) w.rest (value xs) (sym (div-add-mod' (value xs) unit)) in
      let l : 10 ^ p * (value xs % unit) + w.rest < 10 ^ p * unit = below-unit (10 ^ p) unit (value xs % unit) w.rest (mod-lt (value xs) (lit< tt)) w.low in
      let d : all / (10 ^ p * unit) ≡ value xs / unit = ap (λ (n : ℕ). n / (10 ^ p * unit)) e ∙ digits_div (value xs / unit) l in
      let m : all % (10 ^ p * unit) ≡ 10 ^ p * (value xs % unit) + w.rest = ap (λ (n : ℕ). n % (10 ^ p * unit)) e ∙ digits_mod (value xs / unit) l in
      rw (d, m) (weigh (value xs / unit) (10 ^ p) (value xs % unit) w.rest (2 ^ 95) left w.low w.bit w.none w.some)

scaled-low : (m j : ℕ) → m < 16777216 → j < 254 → m * 2 ^ j * 5 ^ 53 < 16777216 * 2 ^ 253 * 5 ^ 53
scaled-low m j a b = lt_of_le_of_lt (mul-le-mul_right (5 ^ 53) (mul-le-mul (less m 16777215 a) (pow_mono (less j 253 b)))) (lit< tt)
  where
    less : (m k : ℕ) → m < suc k → m ≤ k
    less m k h = omega arith

-- m * 2^j in its nine digits
module _ (m j : ℕ) {xs : List ℕ} {p left : ℕ} (w : Cut (m * 2 ^ j * 5 ^ 53) xs p left) (m-low : m < 16777216) (j-low : j < 254) where
  abbrev M : ℕ
  M = m * 2 ^ j

  soon : p < 84
  soon = cut-soon w (scaled-low m j m-low j-low)

  pub place-fits : Fits w64 (p + 1)
  place-fits = record { fits = few p soon }
    where
      few : (p : ℕ) → p < 84 → p + 1 < 18446744073709551616
      few p h = omega arith

  module _ (b : Bool) (is : b ≡ leb billion (value xs)) (no_more : b ≡ false) (d : ℕ) (e : d ≡ near (value xs) left) where
    place_found : place_of 84 0 (M * 5 ^ 53) unit ≡ p
    place_found = place_is 84 0 p (M * 5 ^ 53) unit (from p) (late p soon) w.passed (cut_below w (sym is ∙ no_more))
      where
        from : (p : ℕ) → 0 ≤ p
        from p = omega arith

        late : (p : ℕ) → p < 84 → p ≤ 0 + 84
        late p h = omega arith

    found : decimal M ≡ cond (eqb d (10 ^ 9)) (record { digits = 10 ^ 8; place = p + 1 }) (record { digits = d; place = p })
    unfolding nine_of digits_at
    found = scale.decimal-in-limbs M ∙ rw (place_found, cut-nearest w, ← e)

    pub found_up : d ≡ 1000000000 → ◌≡◌ {A = Decimal} (record { digits = 100000000; place = p + 1 }) (decimal (m * 2 ^ j))
    found_up q = sym (found ∙ rw (eq-eqb d 1000000000 q))

    pub found_as : (d ≡ 1000000000 → ⊥) → ◌≡◌ {A = Decimal} (record { digits = d; place = p }) (decimal (m * 2 ^ j))
    found_as q = sym (found ∙ rw (ne_eqb d 1000000000 q))

-- where the loop begins
scaled : (m j v₀ v₁ v₂ : ℕ) → v₀ ≡ m → v₁ ≡ 5 ^ 53 * v₀ → v₂ ≡ 2 ^ j * v₁ → v₂ ≡ m * 2 ^ j * 5 ^ 53
scaled m j v₀ v₁ v₂ a b c =
    c
    ∙ (ap (λ (k : ℕ). 2 ^ j * k) (b ∙ (ap (λ (k : ℕ). 5 ^ 53 * k) a ∙ mul_comm (5 ^ 53) m))
    ∙ (sym (mul_assoc (2 ^ j) m (5 ^ 53)) ∙ ap (λ (k : ℕ). k * 5 ^ 53) (mul_comm (2 ^ j) m)))

five-low : (v w : ℕ) → v < 16777216 → w ≡ 5 ^ 53 * v → w < 16777216 * 5 ^ 53
five-low v w h e = rw (e, mul_comm (5 ^ 53) v) (mul-lt-mul_of_pos_right h (lit< tt))

zeros : (n k : ℕ) → get_or (replicate n 0) k 0 < 4294967296
zeros zero k = lit< tt
zeros (suc n) zero = lit< tt
zeros (suc n) (suc k) = zeros n k

abbrev first : ℕ → List ℕ
first m = set (replicate 13 0) 0 m

first-value : (m : ℕ) → value (first m) ≡ m
unfolding value
first-value m = omega arith

module _ (m : ℕ) (low : m < 16777216) where
  pub first-number : Limbs (first m) × (value (first m) < 16777216)
  first-number = (limbs-set (replicate 13 0) 0 m (lit< tt) (omega arith) (record { sized = refl; each = zeros 13 }), rw (first-value m) low)

  pub fives-low : (ys : List ℕ) → value ys ≡ 5 ^ 53 * value (first m) → value ys < 16777216 * 5 ^ 53
  fives-low ys e = five-low _ _ (rw (first-value m) low) e

pub cut-begins : (m j : ℕ) (ys : List ℕ) → value ys ≡ 5 ^ 53 * value (first m) → {zs : List ℕ} → Limbs zs → value zs ≡ 2 ^ j * value ys → Cut (m * 2 ^ j * 5 ^ 53) zs 0 0
cut-begins m j ys e {zs} l f = cut-first (m * 2 ^ j * 5 ^ 53) zs l (scaled m j _ _ _ (first-value m) e f)

pub tenth-less : (v w r : ℕ) (b : Bool) → b ≡ leb billion v → b ≡ true → v ≡ 10 * w + r → w < v
tenth-less v w r b is met e = smaller v w r (lt_of_lt_of_le (lit< tt) (leb-true billion v (sym is ∙ met))) e
  where
    smaller : (v w r : ℕ) → 0 < v → v ≡ 10 * w + r → w < v
    smaller v w r h e = omega arith
