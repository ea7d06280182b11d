-- Tests that are the same.
use Prim.Native.Nat.{ℕ, ◌≤◌, ◌<◌}
use mathlib.Core.Bool.{Bool, true, false}
use mathlib.Core.Path.{◌≡◌, refl, sym, ◌∙◌}
use lib.Dec.{leb, eqb}
use borrow.Author.Tests.{le-leb, lt-leb, eq-eqb, ne_eqb, leb-true, leb-false, eqb-true, eqb-false}

pub same_test : (a b c d : ℕ) → (a ≤ b → c ≤ d) → (b < a → d < c) → leb a b ≡ leb c d
same_test a b c d f g = by (leb a b) refl
  where
    by : (t : Bool) → leb a b ≡ t → leb a b ≡ leb c d
    by true q = q ∙ sym (le-leb c d (f (leb-true a b q)))
    by false q = q ∙ sym (lt-leb c d (g (leb-false a b q)))

pub same-equality : (a b c d : ℕ) → (a ≡ b → c ≡ d) → (c ≡ d → a ≡ b) → eqb a b ≡ eqb c d
same-equality a b c d f g = by (eqb a b) refl
  where
    by : (t : Bool) → eqb a b ≡ t → eqb a b ≡ eqb c d
    by true q = q ∙ sym (eq-eqb c d (f (eqb-true a b q)))
    by false q = q ∙ sym (ne_eqb c d (λ e. eqb-false a b q (g e)))
