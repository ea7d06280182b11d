-- A sweep, turn by turn.
use Prim.Native.Nat.{ℕ, suc, ◌+◌, ◌-◌, ◌*◌, ◌%◌, ◌^◌, ◌≤◌, ◌<◌, max}
use native.Mathlib.Numerals.{add-one}
use native.Mathlib.Omega.{arith}
use mathlib.Core.List.{List, ◌∷◌}
use mathlib.Core.Bool.{Bool, true, false, cond}
use mathlib.Core.Path.{◌≡◌, refl, sym, ap, ◌∙◌}
use lib.ListN.{length, drop, get_or, drop_of_length-le}
use lib.Seq.{drop-cons}
use lib.Dec.{ltb}
use mir.Syntax.{w64}
use mir.Val.{Fits}
use borrow.Author.Tests.{lt-ltb, le-ltb, ltb-true, ltb-false}
use Rattle.covering.specs.Sweep.{from, swept}

pub from-reach : (reach begins : ℕ) → begins < reach → reach ≡ from reach begins
from-reach reach begins h = rw (lt-ltb begins reach h) refl

pub from-begins : (reach begins : ℕ) → reach ≤ begins → begins ≡ from reach begins
from-begins reach begins h = rw (le-ltb begins reach h) refl

pub from-most : (reach begins : ℕ) {r : ℕ} → r ≡ max reach begins → r ≡ from reach begins
from-most reach begins {r} e = go (ltb begins reach) refl
  where
    go : (t : Bool) → ltb begins reach ≡ t → r ≡ from reach begins
    go true q = let l = ltb-true begins reach q in omega arith ∙ from-reach reach begins l
    go false q = let l = ltb-false begins reach q in omega arith ∙ from-begins reach begins l

-- what is summed, and what the ranges from i on add to it, is the whole
pub record Sweeping (a : List ℕ) (sum reach i : ℕ) : Type 0 where
  pub even : i % 2 ≡ 0
  pub fits : i ≤ length a
  pub whole : sum + swept reach (drop i a) ≡ swept 0 a

pub sweeping-first : (a : List ℕ) → Sweeping a 0 0 0
sweeping-first a = record { even = refl; fits = omega arith; whole = omega arith }

module _ {a : List ℕ} {sum reach i : ℕ} (two : length a % 2 ≡ 0) (w : Sweeping a sum reach i) where
  next : i < length a → i + 2 ≤ length a
  next h = let x = w.even in omega (arith, h, x, two)

  rest : i < length a → drop i a ≡ get_or a i 0 ∷ get_or a (i + 1) 0 ∷ drop (i + 2) a
  rest h =
      let x = next h in
      let y : i + 2 ≡ suc (suc i) = omega arith in
      drop-cons a i 0 h ∙ ap (λ (l : List ℕ). get_or a i 0 ∷ l) (drop-cons a (suc i) 0 (omega (arith, x))) ∙ rw (add-one i, y) refl

  -- the second number of the range at i, and the range past it
  module _ (h : i < length a) where
    pub past-there : i + 1 < length a
    past-there = omega (arith, next h)

    pub past_fits : length a * 8 < 2 ^ 63 → Fits w64 (i + 1)
    past_fits l = record { fits = omega (arith, next h) }

    pub past-scaled-fits : length a * 8 < 2 ^ 63 → Fits w64 ((i + 1) * 8)
    past-scaled-fits l = record { fits = omega (arith, next h) }

    pub next_fits : length a * 8 < 2 ^ 63 → Fits w64 (i + 2)
    next_fits l = record { fits = omega (arith, next h) }

  module _ (h : i < length a) (begins : ℕ) (f : begins ≡ from reach (get_or a i 0)) where
    turn : (b : Bool) → ltb begins (get_or a (i + 1) 0) ≡ b
        → swept reach (drop i a) ≡ cond b (get_or a (i + 1) 0 - begins + swept (get_or a (i + 1) 0) (drop (i + 2) a)) (swept reach (drop (i + 2) a))
    unfolding swept
    turn b e =
        ap (swept reach) (rest h)
        ∙ ap (λ (n : ℕ). cond (ltb n (get_or a (i + 1) 0)) (get_or a (i + 1) 0 - n + swept (get_or a (i + 1) 0) (drop (i + 2) a)) (swept reach (drop (i + 2) a))) (sym f)
        ∙ ap (λ (t : Bool). cond t (get_or a (i + 1) 0 - begins + swept (get_or a (i + 1) 0) (drop (i + 2) a)) (swept reach (drop (i + 2) a))) e

    pub sweeping-more : begins < get_or a (i + 1) 0 → Sweeping a (sum + (get_or a (i + 1) 0 - begins)) (get_or a (i + 1) 0) (i + 2)
    sweeping-more g =
        let x = w.even in
        let y = turn true (lt-ltb begins (get_or a (i + 1) 0) g) in
        let z = w.whole in
        record { even = omega (arith, x); fits = next h; whole = omega (arith, y, z) }

    -- the sum stays within the whole
    pub sum_fits : begins < get_or a (i + 1) 0 → swept 0 a < 2 ^ 64 → Fits w64 (sum + (get_or a (i + 1) 0 - begins))
    sum_fits g l = let z = (sweeping-more g).whole in record { fits = omega (arith, z) }

    pub sweeping-none : get_or a (i + 1) 0 ≤ begins → Sweeping a sum reach (i + 2)
    sweeping-none g =
        let x = w.even in
        let y = turn false (le-ltb begins (get_or a (i + 1) 0) g) in
        let z = w.whole in
        record { even = omega (arith, x); fits = next h; whole = omega (arith, y, z) }

  pub sweeping-done : length a ≤ i → sum ≡ swept 0 a
  unfolding swept
  sweeping-done h = let z = w.whole in let y : swept reach (drop i a) ≡ 0 = ap (swept reach) (drop_of_length-le a {i = i} h) in omega (arith, y, z)
