-- Bytes that are each below 256.
use Prim.Native.Nat.{ℕ, suc, ◌*◌, ◌^◌, ◌<◌}
use mir.Syntax.{w8}
use mir.Val.{Fits}
use native.Mathlib.Omega.{arith}
use mathlib.Core.List.{List, [], ◌∷◌}
use mathlib.Core.Bool.{true}
use mathlib.Core.Path.{◌≡◌, refl}
use lib.ListN.{length, get_or}
use lib.Pow.{are_bytes}
use borrow.Author.Tests.{lt-ltb}
use Rattle.readback.specs.Lent.{Held}

all-bytes : (s : List ℕ) → ((j : ℕ) → j < length s → get_or s j 0 < 256) → are_bytes s ≡ true
all-bytes [] h = refl
all-bytes (b ∷ s) h = rw (lt-ltb b 256 (h 0 (omega arith))) (all-bytes s λ j l. h (suc j) (omega (arith, l)))

pub all_held : (s : List ℕ) → ((j : ℕ) → j < length s → get_or s j 0 < 256) → length s < 18446744073709551616 → Held s
all_held s h l = record { bytes = all-bytes s h; brief = omega (arith, l) }

-- by what is known of a slice's items and of its length
pub held : (s : List ℕ) → ((j : ℕ) → Fits w8 (get_or s j 0)) → length s * 1 < 2 ^ 63 → Held s
held s k l = all_held s (λ j m. omega (arith, (k j).fits)) (omega arith)
