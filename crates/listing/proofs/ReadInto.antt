-- The loop that reads into what is left of a space: `at` bytes are read into a space as long as the one that was lent.
use Prim.Native.Nat.{ℕ, ◌≤◌}
use mathlib.Core.List.{List}
use mathlib.Core.Path.{◌≡◌}
use lib.ListN.{length}

pub record Filled (lent space : List ℕ) (at : ℕ) : Type 0 where
  pub inside : at ≤ length space
  pub as_long : length space ≡ length lent
