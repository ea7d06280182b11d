-- The size of a head, by its argument.
use Prim.Native.Nat.{ℕ, ◌≤◌, ◌<◌}
use native.Mathlib.Omega.{arith}
use mathlib.Core.Bool.{Bool, true, false, cond}
use mathlib.Core.Path.{◌≡◌, refl}
use lib.Dec.{ltb}
use borrow.Author.Tests.{lt-ltb}
use Rattle.sizes.specs.Size.{head_size}

module _ (n : ℕ) where
  pub head-one : n < 24 → 1 ≡ head_size n
  unfolding head_size
  head-one a = rw (lt-ltb n 24 a) refl

  chosen : (b : Bool) (x y : ℕ) → x ≤ 9 → y ≤ 9 → cond b x y ≤ 9
  chosen true x y h k = h
  chosen false x y h k = k

  pub head_small : head_size n ≤ 9
  unfolding head_size
  head_small =
      chosen (ltb n 24) 1 _ (omega arith)
      (chosen (ltb n 256) 2 _ (omega arith) (chosen (ltb n 65_536) 3 _ (omega arith) (chosen (ltb n 4_294_967_296) 5 9 (omega arith) (omega arith))))
