-- The numbers of a finding are no NaNs, so that each has a pattern.
use Prim.Native.Nat.{ℕ}
use mathlib.Core.Bool.{Bool, true, false, cond}
use mathlib.Core.List.{List, [], ◌∷◌}
use mathlib.Core.Path.{◌≡◌, refl}
use lib.Ieee.{Float, is_nan, lt}
use Rattle.finding.specs.declared.Finding as the
use Rattle.finding.specs.Finding.{values, nans, numbers, lesser, greater, smallest, largest, of_numbers, of_values, finding, Sound}
use Rattle.finding.proofs.Turn.{no}

either : (b : Bool) (x y : Float) → is_nan x ≡ false → is_nan y ≡ false → is_nan (cond b x y) ≡ false
either true x y p q = p
either false x y p q = q

smallest-sound : (k : Float) (xs : List Float) → is_nan k ≡ false → is_nan (smallest k (numbers xs)) ≡ false
unfolding smallest numbers
smallest-sound k [] h = h
smallest-sound k (x ∷ xs) h = go (is_nan x) refl (smallest-sound k xs h) (smallest-sound (lesser k x) xs)
  where
    go : (b : Bool) → is_nan x ≡ b → is_nan (smallest k (numbers xs)) ≡ false → (is_nan (lesser k x) ≡ false → is_nan (smallest (lesser k x) (numbers xs)) ≡ false)
        → is_nan (smallest k (cond b (numbers xs) (x ∷ numbers xs))) ≡ false
    go true e p q = p
    go false e p q = q (either (lt x k) x k e h)

largest-sound : (k : Float) (xs : List Float) → is_nan k ≡ false → is_nan (largest k (numbers xs)) ≡ false
unfolding largest numbers
largest-sound k [] h = h
largest-sound k (x ∷ xs) h = go (is_nan x) refl (largest-sound k xs h) (largest-sound (greater k x) xs)
  where
    go : (b : Bool) → is_nan x ≡ b → is_nan (largest k (numbers xs)) ≡ false → (is_nan (greater k x) ≡ false → is_nan (largest (greater k x) (numbers xs)) ≡ false)
        → is_nan (largest k (cond b (numbers xs) (x ∷ numbers xs))) ≡ false
    go true e p q = p
    go false e p q = q (either (lt k x) x k e h)

of-numbers-sound : (n : ℕ) (xs : List Float) → Sound (of_numbers n (numbers xs))
unfolding of_numbers numbers
of-numbers-sound n [] = n
of-numbers-sound n (x ∷ xs) = go (is_nan x) refl (of-numbers-sound n xs)
  where
    go : (b : Bool) → is_nan x ≡ b → Sound (of_numbers n (numbers xs)) → Sound (of_numbers n (cond b (numbers xs) (x ∷ numbers xs)))
    go true e p = p
    go false e p = (no _ (smallest-sound x xs e), no _ (largest-sound x xs e))

of-values-sound : (xs : List Float) → Sound (of_values xs)
unfolding of_values
of-values-sound [] = 0
of-values-sound (x ∷ xs) = of-numbers-sound (nans (x ∷ xs)) (x ∷ xs)

sound : (s : List ℕ) → Sound (finding s)
unfolding finding
sound s = of-values-sound (values s)

pub as-sound : {f : the.Finding} (s : List ℕ) → f ≡ finding s → Sound f
as-sound s e = rw e (sound s)
