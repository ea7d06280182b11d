-- The test `same` is equality; and a part from 0 on is the whole. Assumes nothing.
use mathlib.Core.Path.{◌≡◌, refl, ap, ◌∙◌}
use mathlib.Core.List.{List, [], ◌∷◌}
use mathlib.Core.Bool.{Bool, true, false}
use Prim.Native.Nat.{ℕ, ◌-◌}
use lib.Dec.{eqb}
use lib.Pointwise.{pointwise}
use lib.ListN.{length, take, drop}
use borrow.Author.Rules.{part_to_end}
use Rattle.meaning.specs.Text.{same}
use Rattle.meaning.proofs.SameText.{same_self, same-eq}

pub eq-same : (a b : List ℕ) → a ≡ b → same a b ≡ true
eq-same a b e = rw e (same_self b)

pub ne_same : (a b : List ℕ) → (a ≡ b → ⊥) → same a b ≡ false
ne_same a b h = go (same a b) refl
  where
    go : (t : Bool) → same a b ≡ t → same a b ≡ false
    go true q = absurd (h (same-eq a b q))
    go false q = q

-- two texts against each other, byte by byte
pub pointwise-same : (x y : List ℕ) → pointwise eqb x y ≡ same x y
pointwise-same [] [] = refl
pointwise-same [] (b ∷ y) = refl
pointwise-same (a ∷ x) [] = refl
pointwise-same (a ∷ x) (b ∷ y) = rw (pointwise-same x y) refl

pub whole : (s : List ℕ) → take (length s - 0) (drop 0 s) ≡ s
whole s = part_to_end s 0

pub same-as-whole : (m s : List ℕ) {r : Bool} → r ≡ same m (take (length s - 0) (drop 0 s)) → r ≡ same m s
same-as-whole m s e = e ∙ ap (same m) (whole s)
