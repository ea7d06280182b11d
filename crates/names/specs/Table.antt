-- A table of digests: each stands at the place that it says, or after it with no 0 between.
use Rattle.std.specs.Prelude.{ℕ, ◌%◌, ◌≤◌, ◌<◌, Bool, true, List, ◌≡◌, get_or}

-- h stands in the table, at its own place or after it, with no 0 between
pub record Found (table : List ℕ) (h : ℕ) : Type 0 where
  pub place : ℕ
  pub low : h % 2048 ≤ place
  pub there : get_or table place 0 ≡ h
  pub run : (e : ℕ) → h % 2048 ≤ e → e < place → get_or table e 0 ≡ 0 → ⊥

-- where the answer is true, h was not there and is now, and the others still are
pub record Claimed (old new : List ℕ) (h : ℕ) (r : Bool) : Type 0 where
  pub free : r ≡ true → Found old h → ⊥
  pub taken : r ≡ true → Found new h
  pub kept : r ≡ true → (g : ℕ) → 0 < g → Found old g → Found new g
