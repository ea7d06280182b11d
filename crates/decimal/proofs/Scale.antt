-- A fraction with a common factor has the same nine digits: M * 10^53 / 2^149 is M * 5^53 / 2^96, which thirteen limbs hold.
use Prim.Native.Nat.{ℕ, zero, suc, ◌+◌, ◌-◌, ◌*◌, ◌/◌, ◌%◌, ◌^◌, ◌≤◌, ◌<◌}
use native.Mathlib.Nat.{mul_left_comm, mul-le-mul_left, mul-lt-mul_of_pos_left, mul-div-mul_left, mul_assoc, mul-sub, mod_def}
use mathlib.Core.Logic.{⊎_elim}
use mathlib.Core.Path.{◌≡◌, refl, sym, ap, ◌∙◌}
use lib.Dec.{ltb, lit<}
use borrow.Author.Tests.{lt-ltb, le-ltb}
use Rattle.endian.proofs.Which.{lt-or}
use Rattle.decimal.specs.Limbs.{rounded, unit}
use Rattle.decimal.specs.Decimal.{nearest, place_of, digits_at, nine_of, decimal}

module _ (k : ℕ) (z : 0 < k) where
  ltb-scaled : (a b : ℕ) → ltb (k * a) (k * b) ≡ ltb a b
  ltb-scaled a b =
      ⊎_elim (λ (h : a < b). lt-ltb (k * a) (k * b) (mul-lt-mul_of_pos_left h z) ∙ sym (lt-ltb a b h))
      (λ (h : b ≤ a). le-ltb (k * a) (k * b) (mul-le-mul_left k h) ∙ sym (le-ltb a b h))
      (lt-or a b)

  rounded-scaled : (q x c : ℕ) → rounded q (k * x) (k * c) ≡ rounded q x c
  unfolding rounded
  rounded-scaled q x c = rw (ltb-scaled x c, ltb-scaled c x)

  mod-scaled : (n c : ℕ) → k * n % (k * c) ≡ k * (n % c)
  mod-scaled n c =
      mod_def (k * n) (k * c)
      ∙ (ap (λ (q : ℕ). k * n - k * c * q) (mul-div-mul_left n c z)
      ∙ (ap (λ (q : ℕ). k * n - q) (mul_assoc k c (n / c)) ∙ (sym (mul-sub k n (c * (n / c))) ∙ ap (λ (q : ℕ). k * q) (sym (mod_def n c)))))

  nearest-scaled : (n c : ℕ) → nearest (k * n) (k * c) ≡ nearest n c
  unfolding nearest
  nearest-scaled n c =
      rw (mul-div-mul_left n c z, mod-scaled n c, mul_left_comm 2 k (n % c)) (rounded-scaled (n / c) (2 * (n % c)) c)

  place-scaled : (f e n c : ℕ) → place_of f e (k * n) (k * c) ≡ place_of f e n c
  unfolding place_of
  place-scaled zero e n c = refl
  place-scaled (suc f) e n c = rw (mul_left_comm (10 ^ (9 + e)) k c, ltb-scaled n (10 ^ (9 + e) * c), place-scaled f (suc e) n c)

  pub nine-scaled : (n c : ℕ) → nine_of (k * n) (k * c) ≡ nine_of n c
  unfolding nine_of digits_at
  nine-scaled n c = rw (place-scaled 84 0 n c, mul_left_comm (10 ^ place_of 84 0 n c) k c, nearest-scaled n (10 ^ place_of 84 0 n c * c))

pub decimal-in-limbs : (M : ℕ) → decimal M ≡ nine_of (M * 5 ^ 53) unit
unfolding decimal
decimal-in-limbs M = ap (λ (n : ℕ). nine_of n (2 ^ 149)) (sym (mul_left_comm (2 ^ 53) M (5 ^ 53))) ∙ nine-scaled (2 ^ 53) (lit< tt) (M * 5 ^ 53) unit
