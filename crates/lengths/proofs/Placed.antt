-- Where a component's bytes may lie, a branch each. Assumes nothing.
use mathlib.Core.Path.{◌≡◌}
use Prim.Native.Nat.{ℕ, ◌+◌, ◌-◌, ◌%◌, ◌≤◌, ◌<◌}
use native.Mathlib.Omega.{arith}
use borrow.Author.Tests.{eq-eqb, ne_eqb, le-leb, lt-leb}
use Rattle.std.specs.Prelude.{Ok, Err}
use Rattle.numbers.specs.Answered.{answered}
use Rattle.numbers.specs.declared.refusal.Refusal.TheVariants as refusals
use Rattle.lengths.specs.Place.{place_rule}

module _ (start o l : ℕ) where
  pub odd : (o % 64 ≡ 0 → ⊥) → place_rule start o l ≡ answered (Err refusals.Align)
  unfolding place_rule
  odd h = rw (ne_eqb (o % 64) 0 h)

  module _ (h : o % 64 ≡ 0) where
    pub low : o < 64 → place_rule start o l ≡ answered (Err refusals.Bounds)
    unfolding place_rule
    low g = rw (eq-eqb (o % 64) 0 h, lt-leb 64 o g)

    module _ (g : 64 ≤ o) where
      pub past : start < o + l → place_rule start o l ≡ answered (Err refusals.Bounds)
      unfolding place_rule
      past f = rw (eq-eqb (o % 64) 0 h, le-leb 64 o g, lt-leb (o + l) start f)

      pub past_all : start < 18446744073709551616 → 18446744073709551615 - o < l → place_rule start o l ≡ answered (Err refusals.Bounds)
      past_all m f = past (omega arith)

      pub inside : o + l ≤ start → place_rule start o l ≡ answered (Ok tt)
      unfolding place_rule
      inside f = rw (eq-eqb (o % 64) 0 h, le-leb 64 o g, le-leb (o + l) start f)
