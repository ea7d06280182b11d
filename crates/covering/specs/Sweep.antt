-- One sweep over ranges in order: what each adds past the place that was reached.
use Rattle.std.specs.Prelude.{ℕ, ◌+◌, ◌-◌, List, [], ◌∷◌, cond, ltb}

-- where what a range adds begins
abbrev pub from : ℕ → ℕ → ℕ
from reach begins = cond (ltb begins reach) reach begins

unfoldable pub swept : ℕ → List ℕ → ℕ
swept reach [] = 0
swept reach (begins ∷ []) = 0
swept reach (begins ∷ past ∷ rest) = cond (ltb (from reach begins) past) (past - from reach begins + swept past rest) (swept reach rest)
