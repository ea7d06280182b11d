-- As much of a part of a file as there is.
use Prim.Native.Nat.{ℕ, ◌+◌, ◌-◌, ◌≤◌, ◌<◌}
use native.Mathlib.Omega.{arith}
use mathlib.Core.List.{List, []}
use mathlib.Core.Path.{◌≡◌, sym, ap, ◌∙◌}
use lib.ListN.{length, take, drop, drop_of_length-le, length-drop}
use lib.Seq.{take_all, take-nil}
use borrow.Author.Rules.{part_to_end}

module _ (file : List ℕ) (place size : ℕ) where
  pub part_none : length file < place → [] ≡ take size (drop place file)
  part_none h = sym (ap (take size) (drop_of_length-le file {i = place} (omega (arith, h))) ∙ take-nil size)

  pub part-rest : place ≤ length file → length file - place < size → take (length file - place) (drop place file) ≡ take size (drop place file)
  part-rest g h =
      part_to_end file place
      ∙ sym (take_all size (drop place file) (let e : length (drop place file) ≡ length file - place = length-drop place file in omega (arith, e, h)))

  pub part-whole : take (place + size - place) (drop place file) ≡ take size (drop place file)
  part-whole = let e : place + size - place ≡ size = omega arith in ap (λ (n : ℕ). take n (drop place file)) e
