-- Eight numbers that are stored in turn. Assumes nothing.
use Prim.Native.Nat.{ℕ}
use native.Mathlib.Omega.{arith}
use mathlib.Core.List.{List, [], ◌∷◌}
use mathlib.Core.Path.{◌≡◌, refl}
use lib.ListN.{length, set}

pub eight-stored : (s : List ℕ) → length s ≡ 8 → (a b c d e f g h : ℕ)
    → set (set (set (set (set (set (set (set s 0 a) 1 b) 2 c) 3 d) 4 e) 5 f) 6 g) 7 h ≡ a ∷ b ∷ c ∷ d ∷ e ∷ f ∷ g ∷ h ∷ []
eight-stored (_ ∷ _ ∷ _ ∷ _ ∷ _ ∷ _ ∷ _ ∷ _ ∷ []) n a b c d e f g h = refl
eight-stored (_ ∷ _ ∷ _ ∷ _ ∷ _ ∷ _ ∷ _ ∷ _ ∷ _ ∷ _) n a b c d e f g h = absurd (omega (arith, n))
eight-stored [] n a b c d e f g h = absurd (omega (arith, n))
eight-stored (_ ∷ []) n a b c d e f g h = absurd (omega (arith, n))
eight-stored (_ ∷ _ ∷ []) n a b c d e f g h = absurd (omega (arith, n))
eight-stored (_ ∷ _ ∷ _ ∷ []) n a b c d e f g h = absurd (omega (arith, n))
eight-stored (_ ∷ _ ∷ _ ∷ _ ∷ []) n a b c d e f g h = absurd (omega (arith, n))
eight-stored (_ ∷ _ ∷ _ ∷ _ ∷ _ ∷ []) n a b c d e f g h = absurd (omega (arith, n))
eight-stored (_ ∷ _ ∷ _ ∷ _ ∷ _ ∷ _ ∷ []) n a b c d e f g h = absurd (omega (arith, n))
eight-stored (_ ∷ _ ∷ _ ∷ _ ∷ _ ∷ _ ∷ _ ∷ []) n a b c d e f g h = absurd (omega (arith, n))
