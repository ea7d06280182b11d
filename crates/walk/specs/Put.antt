-- A list in which a number was put at a place, if there is room: how names and dimensions are noted while they are still counted.
use Rattle.std.specs.Prelude.{ℕ, List, cond, length, set, ltb}

abbrev pub put : List ℕ → ℕ → ℕ → List ℕ
put l i x = cond (ltb i (length l)) (set l i x) l
