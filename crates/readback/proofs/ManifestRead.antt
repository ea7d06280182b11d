-- The manifest of a fine description is read as its tree; where attributes are too deep for their place, it is DEEP.
use Prim.Native.Nat.{ℕ, ◌^◌, ◌≤◌}
use native.Mathlib.Omega.{arith}
use mathlib.Core.List.{List, [], ◌++◌, map, append-nil}
use mathlib.Core.Bool.{Bool, true, false, cond}
use mathlib.Core.Path.{◌≡◌, ap, ◌∙◌, subst}
use lib.Dec.{ltb}
use lib.ListN.{length, length-append}
use Rattle.meaning.specs.Refusal.{DEEP}
use Rattle.meaning.specs.Tree.{Node}
use Rattle.meaning.specs.Read.{Outcome, after, closed, joined, item, manifest}
use Rattle.meaning.specs.Check.{pass, fault}
use Rattle.meaning.specs.Frame.{checked}
use Rattle.meaning.specs.Described.{Described}
use Rattle.meaning.specs.Manifest.{shortest_head, Keyed, entry_bytes, map_bytes, manifest_bytes}
use Rattle.meaning.specs.Every.{Every}
use Rattle.readback.specs.Piece.{Piece, Ends}
use Rattle.readback.specs.Trees.{manifest_piece}
use Rattle.readback.specs.Judged.{too_deep}
use Rattle.readback.specs.Fine.{Fits, Fine}
use Rattle.readback.proofs.PiecesAreRead.{manifest-goes}
use Rattle.readback.proofs.PiecesWritten.{manifest-written, manifest-deep}

module _ {P : Type 0} (note : List ℕ → List ℕ → P) where
  -- the tree that is read
  abbrev pub tree_of : Described → List ℕ → Node P
  tree_of d offsets = (manifest_piece note d offsets).meant []

  closing-checked : (b : Bool) (s : List ℕ) (t : Node P) → Ends b (item note 32 s) t [] → checked (manifest note s) ≡ cond b (fault DEEP) (pass t)
  unfolding manifest checked closed
  closing-checked true s t h = ap (λ (o : Outcome (Node P)). checked (after o closed)) h.is
  closing-checked false s t h = ap (λ (o : Outcome (Node P)). checked (after o closed)) h

  pub manifest-read : (d : Described) (offsets : List ℕ) → Every Fits offsets → Fine d
      → checked (manifest note (manifest_bytes d offsets)) ≡ cond (too_deep d) (fault DEEP) (pass (tree_of d offsets))
  manifest-read d offsets h f =
      let p : Piece (Node P) = manifest_piece note d offsets in
      let e : p.written ++ [] ≡ manifest_bytes d offsets = append-nil p.written ∙ manifest-written note d offsets in
      subst (λ (s : List ℕ). checked (manifest note s) ≡ cond (too_deep d) (fault DEEP) (pass (p.meant []))) e
      (subst (λ (b : Bool). checked (manifest note (p.written ++ [])) ≡ cond b (fault DEEP) (pass (p.meant []))) (manifest-deep note d offsets)
      (closing-checked p.deep (p.written ++ []) (p.meant []) (manifest-goes note d offsets h f [])))

cond-some : (b : Bool) (x y : List ℕ) → 1 ≤ length x → 1 ≤ length y → 1 ≤ length (cond b x y)
cond-some true x y h k = h
cond-some false x y h k = k

head-some : (m n : ℕ) → 1 ≤ length (shortest_head m n)
unfolding shortest_head
head-some m n =
    cond-some (ltb n 24) _ _ (omega arith) (cond-some (ltb n (256 ^ 1)) _ _ (omega arith) (cond-some (ltb n (256 ^ 2)) _ _ (omega arith)
    (cond-some (ltb n (256 ^ 4)) _ _ (omega arith) (omega arith))))

map-some : (es : List (Keyed (List ℕ))) → 1 ≤ length (map_bytes es)
unfolding map_bytes
map-some es = omega (arith, length-append (shortest_head 5 (length es)) (joined (map entry_bytes es)), head-some 5 (length es))

pub manifest-some : (d : Described) (offsets : List ℕ) → 1 ≤ length (manifest_bytes d offsets)
unfolding manifest_bytes
manifest-some d offsets = map-some _
