-- The number that eight bytes make, the first the lowest, as std's method gives it. Assumes nothing.
use mathlib.Core.Path.{◌≡◌}
use mathlib.Core.List.{List, [], ◌∷◌}
use Prim.Native.Nat.{ℕ}
use native.Mathlib.Omega.{arith}
use lib.ListN.{length}
use Rattle.std.specs.Int.{w64, from_le_bytes}
use Rattle.meaning.specs.Frame.{little}

pub little-eight : (s : List ℕ) → length s ≡ 8 → {r : ℕ} → r ≡ from_le_bytes w64 s → r ≡ little s
unfolding little
little-eight (a ∷ b ∷ c ∷ d ∷ e ∷ f ∷ g ∷ h ∷ []) l q = omega arith
little-eight s l q = absurd (omega arith)
