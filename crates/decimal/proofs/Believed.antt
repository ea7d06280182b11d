-- What the definition of the text means: the magnitude is the f32's value in IEEE 754's terms, the rounding is the nearest, and the digits are nine.
use Prim.Native.Nat.{ℕ, zero, suc, ◌+◌, ◌*◌, ◌/◌, ◌%◌, ◌^◌, ◌≤◌, ◌<◌}
use native.Mathlib.Nat.{mul-add, mul_assoc, mul_comm, mul-one, mul_left_comm, mul-pos, mod-lt, div-add-mod, le-div_iff_mul-le, div-lt_iff_lt-mul, pow-suc, le_trans, lt_trans, mul-le-mul_right, mul-lt-mul_of_pos_right}
use lib.Pow.{pow-add}
use native.Mathlib.Omega.{arith}
use mathlib.Core.Bool.{Bool}
use mathlib.Core.Logic.{◌⊎◌, ⊎_elim}
use mathlib.Core.Path.{◌≡◌, refl, ap, ◌∙◌, subst}
use lib.Dec.{leb, lit<, lit≤}
use lib.Ieee.{binary32, of_bits, of_fields, odd}
use lib.Ieee.Exact.{HasValue, odd_sign}
use borrow.Author.Tests.{lt-ltb, le-ltb, eq-eqb, ne_eqb}
use Rattle.endian.proofs.Which.{lt-or, eq-or}
use Rattle.decimal.specs.Limbs.{rounded}
use Rattle.decimal.specs.Decimal.{nearest, place_of, digits_at, nine_of, decimal}
use Rattle.decimal.specs.Text.{magnitude}

-- a pattern whose exponent's field isn't all ones is a number: its sign, and its magnitude in units of 2^-149
fields_value : (s : Bool) (x t : ℕ) → (x ≡ 255 → ⊥) → HasValue (of_fields binary32 s x t) s (magnitude x t) (2 ^ 149)
unfolding of_fields magnitude
fields_value s zero t h = subst (λ (k : ℕ). HasValue (odd 24 s t 0 149) s k (2 ^ 149)) (mul-one t) (odd_sign 24 s t 0 149)
fields_value s (suc x) t h = rw (ne_eqb (suc x) 255 h) (odd_sign 24 s (8388608 + t) x 149)

pub value-of-pattern : (n : ℕ) → (n % 2147483648 / 8388608 ≡ 255 → ⊥)
    → HasValue (of_bits binary32 n) (leb 2147483648 n) (magnitude (n % 2147483648 / 8388608) (n % 8388608)) (2 ^ 149)
unfolding of_bits
value-of-pattern n h = fields_value (leb 2147483648 n) (n % 2147483648 / 8388608) (n % 8388608) h

-- no whole number is nearer to n / c, and of two the even one is taken
pub record Nearest (n c d : ℕ) : Type 0 where
  pub not-above : c * (2 * d) ≤ 2 * n + c
  pub not-below : 2 * n ≤ c * (2 * d) + c
  pub even : (c * (2 * d) ≡ 2 * n + c) ⊎ (2 * n ≡ c * (2 * d) + c) → d % 2 ≡ 0

module _ (n c q r a : ℕ) (z : 0 < c) (e : 2 * n ≡ a + 2 * r) (l : r < c) (i : c * (2 * q) ≡ a) (u : c * (2 * (q + 1)) ≡ a + 2 * c) where
  stays : 2 * r < c → Nearest n c q
  stays h = record { not-above = omega arith; not-below = omega arith; even = ⊎_elim (λ g. absurd (omega arith)) (λ g. absurd (omega arith)) }

  rises : c < 2 * r → Nearest n c (q + 1)
  rises h = record { not-above = omega arith; not-below = omega arith; even = ⊎_elim (λ g. absurd (omega arith)) (λ g. absurd (omega arith)) }

  stays-even : 2 * r ≡ c → q % 2 ≡ 0 → Nearest n c q
  stays-even h p = record { not-above = omega arith; not-below = omega arith; even = λ _. p }

  rises-even : 2 * r ≡ c → (q % 2 ≡ 0 → ⊥) → Nearest n c (q + 1)
  rises-even h p = record { not-above = omega arith; not-below = omega arith; even = λ _. omega arith }

  ties : 2 * r ≡ c → Nearest n c (q + q % 2)
  ties h =
      ⊎_elim (λ (p : q % 2 ≡ 0). let g : q + q % 2 ≡ q = omega arith in rw g (stays-even h p))
      (λ (p : q % 2 ≡ 0 → ⊥). let g : q + q % 2 ≡ q + 1 = omega arith in rw g (rises-even h p))
      (eq-or (q % 2) 0)

  picks : Nearest n c (rounded q (2 * r) c)
  unfolding rounded
  picks =
      ⊎_elim (λ (h : 2 * r < c). rw (lt-ltb (2 * r) c h) (stays h))
      (λ (h : c ≤ 2 * r). rw (le-ltb (2 * r) c h) (⊎_elim (λ (g : c < 2 * r). rw (lt-ltb c (2 * r) g) (rises g))
      (λ (g : 2 * r ≤ c). rw (le-ltb c (2 * r) g) (ties (omega arith))) (lt-or c (2 * r))))
      (lt-or (2 * r) c)

-- `nearest` is what its name says
pub is-nearest : (n c : ℕ) → 0 < c → Nearest n c (nearest n c)
unfolding nearest
is-nearest n c z = picks n c (n / c) (n % c) (c * (2 * (n / c))) z parts (mod-lt n z) refl up
  where
    parts : 2 * n ≡ c * (2 * (n / c)) + 2 * (n % c)
    parts =
        let e : c * (n / c) + n % c ≡ n = div-add-mod n c in
        let g : c * (2 * (n / c)) ≡ 2 * (c * (n / c)) = mul_left_comm c 2 (n / c) in
        omega arith

    up : c * (2 * (n / c + 1)) ≡ c * (2 * (n / c)) + 2 * c
    up =
        let e : 2 * (n / c + 1) ≡ 2 * (n / c) + 2 = omega arith in
        ap (λ (k : ℕ). c * k) e ∙ (mul-add c (2 * (n / c)) 2 ∙ ap (λ (k : ℕ). c * (2 * (n / c)) + k) (mul_comm c 2))

-- the place is the right one
at_place : (f k n c : ℕ) → 10 ^ (8 + k) * c ≤ n → n < 10 ^ (9 + (k + f)) * c
    → (10 ^ (8 + place_of f k n c) * c ≤ n) × (n < 10 ^ (9 + place_of f k n c) * c)
unfolding place_of
at_place zero k n c l h = let e : k + 0 ≡ k = omega arith in (l, rw e at h)
at_place (suc f) k n c l h =
    ⊎_elim (λ (g : n < 10 ^ (9 + k) * c). rw (lt-ltb n (10 ^ (9 + k) * c) g) (l, g))
    (λ (g : 10 ^ (9 + k) * c ≤ n). let e : 8 + suc k ≡ 9 + k = omega arith in
    let d : k + suc f ≡ suc k + f = omega arith in
    rw (le-ltb n (10 ^ (9 + k) * c) g) (at_place f (suc k) n c (rw e g) (rw d at h)))
    (lt-or n (10 ^ (9 + k) * c))

-- a number from 10^8 to below 10^9 rounds to one of them, or to 10^9
rounds-within : (q x c : ℕ) → 100000000 ≤ q → q < 1000000000 → (100000000 ≤ rounded q x c) × (rounded q x c ≤ 1000000000)
unfolding rounded
rounds-within q x c a b =
    ⊎_elim (λ (h : x < c). rw (lt-ltb x c h) (a, omega arith))
    (λ (h : c ≤ x). rw (le-ltb x c h) (⊎_elim (λ (g : c < x). rw (lt-ltb c x g) (omega arith, omega arith)) (λ (g : x ≤ c). rw (le-ltb c x g) (omega arith, omega arith)) (lt-or c x)))
    (lt-or x c)

pub ten-some : (p : ℕ) → 0 < 10 ^ p
ten-some zero = lit< tt
ten-some (suc p) = rw (pow-suc 10 p) (omega (arith, ten-some p))

module _ (n c p : ℕ) (z : 0 < c) (w : (10 ^ (8 + p) * c ≤ n) × (n < 10 ^ (9 + p) * c)) where
  near_within : (100000000 ≤ nearest n (10 ^ p * c)) × (nearest n (10 ^ p * c) ≤ 1000000000)
  unfolding nearest
  near_within =
      let k : 0 < 10 ^ p * c = mul-pos (ten-some p) z in
      let a : 100000000 * (10 ^ p * c) ≤ n = rw (pow-add 10 8 p, mul_assoc (10 ^ 8) (10 ^ p) c) at w.0 in
      let b : n < 1000000000 * (10 ^ p * c) = rw (pow-add 10 9 p, mul_assoc (10 ^ 9) (10 ^ p) c) at w.1 in
      rounds-within (n / (10 ^ p * c)) (2 * (n % (10 ^ p * c))) (10 ^ p * c) ((le-div_iff_mul-le k).1 a) ((div-lt_iff_lt-mul k).1 b)

  nine-at : (10 ^ 8 ≤ (digits_at p n c).digits) × ((digits_at p n c).digits < 10 ^ 9)
  unfolding digits_at
  nine-at =
      ⊎_elim (λ (e : nearest n (10 ^ p * c) ≡ 1000000000). rw (eq-eqb (nearest n (10 ^ p * c)) 1000000000 e) (lit≤ tt, lit< tt))
      (λ (e : nearest n (10 ^ p * c) ≡ 1000000000 → ⊥). rw (ne_eqb (nearest n (10 ^ p * c)) 1000000000 e) (near_within.0, below near_within.1 e))
      (eq-or (nearest n (10 ^ p * c)) 1000000000)
    where
      below : {d : ℕ} → d ≤ 1000000000 → (d ≡ 1000000000 → ⊥) → d < 1000000000
      below h e = omega arith

-- from 10^8 on, up to where 84 places suffice, there are nine digits
pub nine-digits : (n c : ℕ) → 0 < c → 10 ^ 8 * c ≤ n → n < 10 ^ 93 * c → (10 ^ 8 ≤ (nine_of n c).digits) × ((nine_of n c).digits < 10 ^ 9)
unfolding nine_of
nine-digits n c z l h = nine-at n c (place_of 84 0 n c) z (at_place 84 0 n c l h)

-- so has every f32 but 0
pub decimal-nine-digits : (M : ℕ) → 0 < M → M < 2 ^ 277 → (10 ^ 8 ≤ (decimal M).digits) × ((decimal M).digits < 10 ^ 9)
unfolding decimal
decimal-nine-digits M z h =
    nine-digits (M * 10 ^ 53) (2 ^ 149) (lit< tt) (le_trans {m = 1 * 10 ^ 53} (lit≤ tt) (mul-le-mul_right (10 ^ 53) z))
    (lt_trans {m = 2 ^ 277 * 10 ^ 53} (mul-lt-mul_of_pos_right h (lit< tt)) (lit< tt))
