-- Putting keeps the length, and all else.
use Prim.Native.Nat.{ℕ}
use mathlib.Core.List.{List}
use mathlib.Core.Bool.{Bool, true, false, cond}
use mathlib.Core.Path.{◌≡◌, refl}
use lib.ListN.{length, get_or, set, length-set}
use lib.Seq.{get_or-set_other}
use lib.Dec.{ltb}
use Rattle.walk.specs.Put.{put}

pub length-put : (l : List ℕ) (i x : ℕ) → length (put l i x) ≡ length l
length-put l i x = go (ltb i (length l))
  where
    go : (b : Bool) → length (cond b (set l i x) l) ≡ length l
    go true = length-set l i x
    go false = refl

pub put_other : (l : List ℕ) (i j x : ℕ) → (j ≡ i → ⊥) → get_or (put l i x) j 0 ≡ get_or l j 0
put_other l i j x other = go (ltb i (length l))
  where
    go : (b : Bool) → get_or (cond b (set l i x) l) j 0 ≡ get_or l j 0
    go true = get_or-set_other l i j x 0 other
    go false = refl
