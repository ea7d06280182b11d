-- Which layout a caller's number names: 1 is 1.0, every other number is 1.2.0.
use Prim.Native.Nat.{ℕ}
use mathlib.Core.Bool.{Bool, true, false, cond}
use mathlib.Core.Path.{◌≡◌, refl}
use lib.Dec.{eqb}
use borrow.Author.Tests.{eq-eqb, ne_eqb, eqb-true, eqb-false}
use Rattle.meaning.specs.Layouts.{Layout, current, old, layout_of}

pub is-old : (n : ℕ) → n ≡ 1 → layout_of n ≡ old
unfolding layout_of
is-old n e = rw (eq-eqb n 1 e) refl

pub is-current : (n : ℕ) → (n ≡ 1 → ⊥) → layout_of n ≡ current
unfolding layout_of
is-current n e = rw (ne_eqb n 1 e) refl

-- what holds of both holds of each
pub by_layout : (Q : ℕ → Layout → Type 0) (n : ℕ) → (n ≡ 1 → Q n old) → ((n ≡ 1 → ⊥) → Q n current) → Q n (layout_of n)
unfolding layout_of
by_layout Q n h g = go (eqb n 1) refl
  where
    go : (b : Bool) → eqb n 1 ≡ b → Q n (cond b old current)
    go true e = h (eqb-true n 1 e)
    go false e = g (eqb-false n 1 e)
