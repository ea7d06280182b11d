-- A number of thirteen limbs in units of 2^96: the fourth limb and what is above it are the whole part.
use Prim.Native.Nat.{ℕ, ◌+◌, ◌*◌, ◌/◌, ◌%◌, ◌≤◌, ◌<◌}
use native.Mathlib.Omega.{arith}
use mathlib.Core.List.{List}
use mathlib.Core.Bool.{Bool, true, false}
use mathlib.Core.Path.{◌≡◌, refl, sym}
use lib.ListN.{length, get_or, drop}
use lib.Dec.{leb}
use mir.Syntax.{w64}
use mir.Val.{Fits}
use borrow.Author.Tests.{lt-ltb, le-ltb, lt-leb, le-leb, leb-true, leb-false}
use Rattle.decimal.specs.Limbs.{value, Limbs, unit, billion, near}
use Rattle.decimal.proofs.Glue.{base, value-at, drop_all}

abbrev pub low : List ℕ → ℕ
low xs = get_or xs 0 0 + 4294967296 * get_or xs 1 0 + 18446744073709551616 * get_or xs 2 0

module _ (xs : List ℕ) (l : Limbs xs) where
  pub split : value xs ≡ low xs + unit * value (drop 3 xs)
  split =
      let n : length xs ≡ 13 = l.sized in
      let a : value xs ≡ get_or xs 0 0 + base * value (drop 1 xs) = value-at xs 0 (omega arith) in
      let b : value (drop 1 xs) ≡ get_or xs 1 0 + base * value (drop 2 xs) = value-at xs 1 (omega arith) in
      let c : value (drop 2 xs) ≡ get_or xs 2 0 + base * value (drop 3 xs) = value-at xs 2 (omega arith) in
      omega arith

  pub low_small : low xs < unit
  low_small = omega (arith, l.each 0, l.each 1, l.each 2)

  pub whole : value xs / unit ≡ value (drop 3 xs)
  whole = omega (arith, split, low_small)

  pub left_over : value xs % unit ≡ low xs
  left_over = omega (arith, split, low_small)

  pub third : value (drop 3 xs) ≡ get_or xs 3 0 + base * value (drop 4 xs)
  third = value-at xs 3 (omega (arith, l.sized))

  pub reaches : 1000000000 ≤ value (drop 3 xs) → leb billion (value xs) ≡ true
  reaches h = le-leb billion (value xs) (omega (arith, split, h))

  pub misses : value (drop 3 xs) < 1000000000 → leb billion (value xs) ≡ false
  misses h = lt-leb billion (value xs) (omega (arith, split, low_small, h))

  alone : value (drop 3 xs) < 1000000000 → value (drop 3 xs) ≡ get_or xs 3 0
  alone h = omega (arith, third, h)

  -- the fourth limb alone, where the number is below a billion
  pub fourth : value xs < billion → value (drop 3 xs) ≡ get_or xs 3 0
  fourth h = alone (omega (arith, split, h))

  module _ (h : value xs < billion) (left : ℕ) (s : left < 2) where
    pub near_down : get_or xs 2 0 < 2147483648 → get_or xs 3 0 ≡ near (value xs) left
    unfolding near
    near_down p = rw (whole, left_over, fourth h, lt-ltb (2 * low xs + left) unit (omega (arith, l.each 0, l.each 1, p, s)))

    pub near_even : get_or xs 2 0 ≡ 2147483648 → get_or xs 1 0 + get_or xs 0 0 + left ≡ 0 → get_or xs 3 0 + get_or xs 3 0 % 2 ≡ near (value xs) left
    unfolding near
    near_even p q =
        let e : 2 * low xs + left ≡ unit = omega arith in
        rw (whole, left_over, fourth h, e)

    near_up : unit < 2 * low xs + left → get_or xs 3 0 + 1 ≡ near (value xs) left
    unfolding near
    near_up p = rw (whole, left_over, fourth h, le-ltb (2 * low xs + left) unit (omega arith), lt-ltb unit (2 * low xs + left) p)

    pub near-above : get_or xs 2 0 ≡ 2147483648 → (get_or xs 1 0 + get_or xs 0 0 + left ≡ 0 → ⊥) → get_or xs 3 0 + 1 ≡ near (value xs) left
    near-above p q = near_up (omega arith)

    pub near-over : 2147483648 ≤ get_or xs 2 0 → (get_or xs 2 0 ≡ 2147483648 → ⊥) → get_or xs 3 0 + 1 ≡ near (value xs) left
    near-over p q = near_up (omega arith)

  -- sums of limbs fit 64 bits
  pub two-fit : Fits w64 (get_or xs 1 0 + get_or xs 0 0)
  two-fit = record { fits = omega (arith, l.each 1, l.each 0) }

  pub two-and-left-fit : (left : ℕ) → left < 2 → Fits w64 (get_or xs 1 0 + get_or xs 0 0 + left)
  two-and-left-fit left s = record { fits = omega (arith, l.each 1, l.each 0) }

  pub even-fits : Fits w64 (get_or xs 3 0 + get_or xs 3 0 % 2)
  even-fits = record { fits = omega (arith, l.each 3) }

  pub up_fits : Fits w64 (get_or xs 3 0 + 1)
  up_fits = record { fits = omega (arith, l.each 3) }

-- the limbs from the fifth on, from the i-th on nothing met
pub record Looked (xs : List ℕ) (i : ℕ) : Type 0 where
  pub from : 4 ≤ i
  pub within : i ≤ 13
  pub below : value (drop i xs) ≤ value (drop 4 xs)
  pub none : value (drop i xs) ≡ 0 → value (drop 4 xs) ≡ 0

pub looked-first : (xs : List ℕ) → Looked xs 4
looked-first xs = record { from = omega arith; within = omega arith; below = omega arith; none = λ e. e }

module _ (xs : List ℕ) (l : Limbs xs) (i : ℕ) (w : Looked xs i) where
  at : i < 13 → value (drop i xs) ≡ get_or xs i 0 + base * value (drop (i + 1) xs)
  at h = value-at xs i (omega (arith, l.sized))

  pub looked-next : i < 13 → get_or xs i 0 ≡ 0 → Looked xs (i + 1)
  looked-next h z =
      let e : value (drop i xs) ≡ get_or xs i 0 + base * value (drop (i + 1) xs) = at h in
      record { from = omega (arith, w.from); within = omega arith; below = omega (arith, w.below); none = λ n. w.none (omega arith) }

  pub looked-met : i < 13 → (get_or xs i 0 ≡ 0 → ⊥) → true ≡ leb billion (value xs)
  looked-met h z =
      let e : value (drop i xs) ≡ get_or xs i 0 + base * value (drop (i + 1) xs) = at h in
      sym (reaches xs l (omega (arith, third xs l, w.below)))

  pub looked-done : 13 ≤ i → leb 1000000000 (get_or xs 3 0) ≡ leb billion (value xs)
  looked-done h =
      let z : value (drop 4 xs) ≡ 0 = w.none (drop_all xs i (omega (arith, l.sized))) in
      let t : value (drop 3 xs) ≡ get_or xs 3 0 + base * value (drop 4 xs) = third xs l in
      let s : value (drop 3 xs) ≡ get_or xs 3 0 = omega arith in
      by (leb 1000000000 (get_or xs 3 0)) refl s
    where
      by : (b : Bool) → leb 1000000000 (get_or xs 3 0) ≡ b → value (drop 3 xs) ≡ get_or xs 3 0 → b ≡ leb billion (value xs)
      by true e s = sym (reaches xs l (omega (arith, leb-true 1000000000 (get_or xs 3 0) e)))
      by false e s = sym (misses xs l (omega (arith, leb-false 1000000000 (get_or xs 3 0) e)))
