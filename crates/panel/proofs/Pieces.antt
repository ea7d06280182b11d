-- Pieces that are written one after the other make bytes that are equal to all of them.
use Prim.Native.Nat.{ℕ}
use mathlib.Core.List.{List, ◌++◌}
use mathlib.Core.Path.{◌≡◌}
use Rattle.put.specs.Wrote.{Wrote}
use Rattle.put.proofs.PiecesInTurn.{then, as_bytes}

module _ {us vs : List ℕ} {at : ℕ} {xs ys zs : List ℕ} {q r : ℕ} (a : Wrote us at xs ys q) (b : Wrote vs q ys zs r) where
  pub in_two : {all : List ℕ} → us ++ vs ≡ all → Wrote all at xs zs r
  in_two e = as_bytes e (then a b)

  module _ {ws : List ℕ} {zs' : List ℕ} {r' : ℕ} (c : Wrote ws r zs zs' r') where
    pub in_three : {all : List ℕ} → us ++ (vs ++ ws) ≡ all → Wrote all at xs zs' r'
    in_three e = as_bytes e (then a (then b c))

    pub in_four : {ts : List ℕ} {zs'' : List ℕ} {r'' : ℕ} → Wrote ts r' zs' zs'' r'' → {all : List ℕ} → us ++ (vs ++ (ws ++ ts)) ≡ all → Wrote all at xs zs'' r''
    in_four d e = as_bytes e (then a (then b (then c d)))
