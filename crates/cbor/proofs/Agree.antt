-- What `skip` answers holds of the tree that the meaning reads, whatever its annotations: the same outcome, the same length.
use Prim.Native.Nat.{ℕ}
use mathlib.Core.List.{List}
use mathlib.Core.Path.{◌≡◌, refl, ap, sym, ◌∙◌}
use lib.ListN.{drop}
use Rattle.meaning.specs.Tree.{Node, map_p, nothing}
use Rattle.meaning.specs.Read.{Outcome, got, refused, item, no_note}
use Rattle.meaning.proofs.ReadNatural.{map_out, item-follows}
use Rattle.meaning.proofs.ReadPrefix.{item-exact}
use Rattle.cbor.specs.Ending.{took, ending, item_end}
use Rattle.cbor.proofs.Ends.{Got, got-what}

module _ {P : Type 0} (note : List ℕ → List ℕ → P) (d : ℕ) (s : List ℕ) where
  bare : item no_note d s ≡ map_out (map_p nothing) (item note d s)
  unfolding no_note
  bare = item-follows nothing note d s

  ending-mapped : (o : Outcome (Node P)) → ending s (map_out (map_p nothing) o) ≡ ending s o
  ending-mapped (got t r) = refl
  ending-mapped (refused n q) = refl

  pub annotations-change-no-ending : ending s (item note d s) ≡ item_end d s
  annotations-change-no-ending = sym (ap (ending s) bare ∙ ending-mapped (item note d s))

  -- so what is left after an item is what follows the bytes that it took
  pub rest-follows : (t : Node P) (r : List ℕ) (k : ℕ) → item note d s ≡ got t r → item_end d s ≡ took k → r ≡ drop k s
  rest-follows t r k e h =
      let p : Got (item no_note d) (item-exact d) s k = got-what (item no_note d) (item-exact d) s k h in
      let q : got (map_p nothing t) r ≡ got p.value (drop k s) = sym (bare ∙ ap (map_out (map_p nothing)) e) ∙ p.is in
      cc
