-- A row that was put after those before it.
use Prim.Native.Nat.{ℕ, suc, ◌+◌, ◌*◌, ◌<◌}
use native.Mathlib.Omega.{arith}
use mathlib.Core.List.{List, [], ◌∷◌, ◌++◌, append_assoc}
use mathlib.Core.Path.{◌≡◌, ap, ◌∙◌}
use lib.ListN.{length, take, set, length-set}
use lib.Seq.{take-suc-set}
use mathlib.Core.Bool.{Bool, true, false, cond}
use lib.Dec.{ltb}
use borrow.Author.Tests.{lt-ltb}
use Rattle.meaning.specs.Limit.{component_limit}
use Rattle.components.specs.Row.{put_row}

module _ (rows : List ℕ) (room : length rows ≡ 64) (j a b c d : ℕ) where
  abbrev one : List ℕ
  one = set rows (j * 4) a

  abbrev two : List ℕ
  two = set one (j * 4 + 1) b

  abbrev three : List ℕ
  three = set two (j * 4 + 2) c

  sizes : (length one ≡ 64) × (length two ≡ 64) × (length three ≡ 64)
  sizes =
      let x = length-set rows (j * 4) a ∙ room in
      let y = length-set one (j * 4 + 1) b ∙ x in
      (x, y, length-set two (j * 4 + 2) c ∙ y)

  pub row-length : length (put_row rows j a b c d) ≡ 64
  row-length = go (ltb j component_limit)
    where
      go : (t : Bool) → length (cond t (set three (j * 4 + 3) d) rows) ≡ 64
      go true = length-set three (j * 4 + 3) d ∙ sizes.2
      go false = room

  pub rows-room : (after : List ℕ) → after ≡ put_row rows j a b c d → length after ≡ 64
  rows-room after e = ap length e ∙ row-length

  pub row-after : j < component_limit → take (4 * suc j) (put_row rows j a b c d) ≡ take (4 * j) rows ++ a ∷ b ∷ c ∷ d ∷ []
  row-after few =
      let z : 4 * suc j ≡ suc (j * 4 + 3) = omega arith in
      let y : j * 4 + 3 ≡ suc (j * 4 + 2) = omega arith in
      let x : j * 4 + 2 ≡ suc (j * 4 + 1) = omega arith in
      let w : j * 4 + 1 ≡ suc (j * 4) = omega arith in
      let v : j * 4 ≡ 4 * j = omega arith in
      let p = sizes.0 in let q = sizes.1 in let r = sizes.2 in
      rw (lt-ltb j component_limit few)
      (ap (λ i. take i (set three (j * 4 + 3) d)) z ∙ take-suc-set three (j * 4 + 3) d (omega arith)
      ∙ ap (λ l. l ++ d ∷ []) (ap (λ i. take i three) y ∙ take-suc-set two (j * 4 + 2) c (omega arith)
      ∙ ap (λ l. l ++ c ∷ []) (ap (λ i. take i two) x ∙ take-suc-set one (j * 4 + 1) b (omega arith)
      ∙ ap (λ l. l ++ b ∷ []) (ap (λ i. take i one) w ∙ take-suc-set rows (j * 4) a (omega arith)
      ∙ ap (λ i. take i rows ++ a ∷ []) v)))
      ∙ simp append_assoc)
