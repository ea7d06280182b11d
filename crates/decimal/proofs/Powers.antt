-- Products by fives and by twos: what they come to, and that they fit.
use Prim.Native.Nat.{ℕ, ◌+◌, ◌*◌, ◌^◌, ◌-◌, ◌≤◌, ◌<◌}
use native.Mathlib.Nat.{mul_assoc, mul_comm, mul-le-mul_left, mul-le-mul_right, mul-le-mul, lt_of_le_of_lt, le_of_lt, mul-one}
use native.Mathlib.Omega.{arith}
use mathlib.Core.List.{List}
use mathlib.Core.Path.{◌≡◌, refl, sym, ap, ◌∙◌}
use lib.Dec.{lit<}
use lib.Pow.{pow_mono, pow-add}
use Rattle.decimal.specs.Limbs.{value, Limbs, most}

-- c * v, where v is at most b
fits : (c b v : ℕ) → v ≤ b → c * b < most → c * v < most
fits c b v h l = lt_of_le_of_lt (mul-le-mul_left c h) l

at_most : (c b v w : ℕ) → v ≤ b → w ≡ c * v → w ≤ c * b
at_most c b v w h e = rw e (mul-le-mul_left c h)

join : (a b x y z : ℕ) → y ≡ b * x → z ≡ a * y → z ≡ a * b * x
join a b x y z e f = f ∙ (ap (λ (k : ℕ). a * k) e ∙ sym (mul_assoc a b x))

-- m * 5^53: four times by 5^13, and by 5
module _ (xs : List ℕ) (low : value xs < 16777216) where
  pub first_fits : 1220703125 * value xs < most
  first_fits = fits 1220703125 16777216 _ (le_of_lt low) (lit< tt)

  module _ (ys : List ℕ) (y : value ys ≡ 1220703125 * value xs) where
    y-low : value ys ≤ 20480000000000000
    y-low = at_most 1220703125 16777216 _ _ (le_of_lt low) y

    pub second_fits : 1220703125 * value ys < most
    second_fits = fits 1220703125 20480000000000000 _ y-low (lit< tt)

    module _ (zs : List ℕ) (z : value zs ≡ 1220703125 * value ys) where
      z-low : value zs ≤ 25000000000000000000000000
      z-low = at_most 1220703125 20480000000000000 _ _ y-low z

      pub third-fits : 1220703125 * value zs < most
      third-fits = fits 1220703125 25000000000000000000000000 _ z-low (lit< tt)

      module _ (us : List ℕ) (u : value us ≡ 1220703125 * value zs) where
        u-low : value us ≤ 30517578125000000000000000000000000
        u-low = at_most 1220703125 25000000000000000000000000 _ _ z-low u

        pub fourth-fits : 1220703125 * value us < most
        fourth-fits = fits 1220703125 30517578125000000000000000000000000 _ u-low (lit< tt)

        module _ (vs : List ℕ) (v : value vs ≡ 1220703125 * value us) where
          pub last_fits : 5 * value vs < most
          last_fits = fits 5 37252902984619140625000000000000000000000000 _ (at_most 1220703125 30517578125000000000000000000000000 _ _ u-low v) (lit< tt)

pub all-fives : (v : ℕ) {a b c d e : ℕ} → a ≡ 1220703125 * v → b ≡ 1220703125 * a → c ≡ 1220703125 * b → d ≡ 1220703125 * c → e ≡ 5 * d → e ≡ 5 ^ 53 * v
all-fives v p q r s t =
    join 5 2220446049250313080847263336181640625 _ _ _ (join 1220703125 1818989403545856475830078125 _ _ _ (join 1220703125 1490116119384765625 _ _ _ (join 1220703125 1220703125 _ _ _ p q) r) s) t

-- m * 5^53 * 2^j fits
all-fits : (v j : ℕ) → j < 254 → v < 16777216 * 5 ^ 53 → v * 2 ^ j < most
all-fits v j p b =
    let h : j ≤ 253 = omega-free p in
    let c : v * 2 ^ j ≤ 16777216 * 5 ^ 53 * 2 ^ 253 = mul-le-mul (le_of_lt b) (pow_mono h) in
    lt_of_le_of_lt c (lit< tt)
  where
    omega-free : {j : ℕ} → j < 254 → j ≤ 253
    omega-free p = omega arith

-- on the way to 2^j times the number, with 2^k still to come
pub record Doubling (all : List ℕ) (j : ℕ) (xs : List ℕ) (k : ℕ) : Type 0 where
  pub limbs : Limbs xs
  pub stands : value xs * 2 ^ k ≡ value all * 2 ^ j

pub doubling-first : (xs : List ℕ) (j : ℕ) → Limbs xs → Doubling xs j xs j
doubling-first xs j l = record { limbs = l; stands = refl }

module _ {all : List ℕ} {j : ℕ} {xs : List ℕ} {k : ℕ} (w : Doubling all j xs k) (d : ℕ) where
  doubling-fits : d ≤ k → value all * 2 ^ j < most → 2 ^ d * value xs < most
  doubling-fits h b =
      let a : 2 ^ d * value xs ≤ 2 ^ k * value xs = mul-le-mul_right (value xs) (pow_mono h) in
      let e : 2 ^ k * value xs ≡ value all * 2 ^ j = mul_comm (2 ^ k) (value xs) ∙ w.stands in
      lt_of_le_of_lt (rw e at a) b

  doubling-next : (ys : List ℕ) (i : ℕ) → k ≡ d + i → Limbs ys → value ys ≡ 2 ^ d * value xs → Doubling all j ys i
  doubling-next ys i e l v = record {
    limbs = l;
    stands =
        ap (λ (n : ℕ). n * 2 ^ i) (v ∙ mul_comm (2 ^ d) (value xs))
        ∙ (mul_assoc (value xs) (2 ^ d) (2 ^ i) ∙ (ap (λ (n : ℕ). value xs * n) (sym (pow-add 2 d i) ∙ ap (λ (n : ℕ). 2 ^ n) (sym e)) ∙ w.stands));
  }

module _ {all : List ℕ} {j : ℕ} {xs : List ℕ} {k : ℕ} (w : Doubling all j xs k) where
  pub sixteen-fit : 16 ≤ k → value all < 16777216 * 5 ^ 53 → j < 254 → 65536 * value xs < most
  sixteen-fit h b l = doubling-fits w 16 h (all-fits _ _ l b)

  module _ {ys : List ℕ} (l : Limbs ys) where
    pub sixteen-done : 16 ≤ k → value ys ≡ 65536 * value xs → Doubling all j ys (k - 16)
    sixteen-done h v = doubling-next w 16 ys (k - 16) (omega arith) l v

    pub one-done : 0 < k → value ys ≡ 2 * value xs → Doubling all j ys (k - 1)
    one-done h v = doubling-next w 1 ys (k - 1) (omega arith) l v

-- the second loop goes on where the first ended
module _ {all mid : List ℕ} {j i : ℕ} {xs : List ℕ} {k : ℕ} (f : Doubling all j mid i) (w : Doubling mid i xs k) where
  pub one-fits : 0 < k → value all < 16777216 * 5 ^ 53 → j < 254 → 2 * value xs < most
  one-fits h b l = doubling-fits w 1 h (rw f.stands (all-fits _ _ l b))

  pub doubling-done : k ≤ 0 → value xs ≡ 2 ^ j * value all
  doubling-done l =
      let e : k ≡ 0 = omega arith in
      sym (mul-one (value xs)) ∙ ((rw e at w.stands) ∙ (f.stands ∙ mul_comm (value all) (2 ^ j)))
