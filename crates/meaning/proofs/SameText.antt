-- The test `same` is equality of texts. Assumes nothing.
use Prim.Native.Nat.{ℕ}
use mathlib.Core.List.{List, [], ◌∷◌}
use mathlib.Core.Bool.{Bool, true, false, ◌&&◌}
use mathlib.Core.Path.{◌≡◌, refl, ap, ap₂}
use lib.ListN.{length}
use lib.Dec.{eqb}
use borrow.Author.Tests.{eq-eqb, eqb-true}
use Rattle.meaning.specs.Text.{same}
use Rattle.meaning.proofs.Tests.{false-not, eqb-turned}

pub same_self : (a : List ℕ) → same a a ≡ true
same_self [] = refl
same_self (x ∷ a) = rw (eq-eqb x x refl) (same_self a)

pub same-eq : (a b : List ℕ) → same a b ≡ true → a ≡ b
same-eq [] [] e = refl
same-eq [] (y ∷ b) e = absurd (false-not e)
same-eq (x ∷ a) [] e = absurd (false-not e)
same-eq (x ∷ a) (y ∷ b) e = go (eqb x y) refl e (same-eq a b)
  where
    go : (t : Bool) → eqb x y ≡ t → (t && same a b) ≡ true → (same a b ≡ true → a ≡ b) → (x ∷ a) ≡ (y ∷ b)
    go true q f ih = ap₂ (λ (u : ℕ) (us : List ℕ). u ∷ us) (eqb-true x y q) (ih f)
    go false q f ih = absurd (false-not f)

pub same_length : (a b : List ℕ) → same a b ≡ true → length a ≡ length b
same_length a b e = ap length (same-eq a b e)

pub same-turned : (a b : List ℕ) → same a b ≡ same b a
same-turned [] [] = refl
same-turned [] (y ∷ b) = refl
same-turned (x ∷ a) [] = refl
same-turned (x ∷ a) (y ∷ b) = ap₂ (λ u v. u && v) (eqb-turned x y) (same-turned a b)
