-- Whole items: how many bytes one takes, and where it stands in the file.
use Prim.Native.Nat.{ℕ, ◌-◌, ◌<◌}
use native.Mathlib.Omega.{arith}
use mathlib.Core.List.{List}
use mathlib.Core.Option.{Option, none, some}
use mathlib.Core.Path.{◌≡◌, ap, sym, ◌∙◌, subst}
use lib.ListN.{length, drop, length-drop}
use borrow.Author.Rules.{part_to_end}
use Rattle.meaning.specs.Tree.{Node, note_of}
use Rattle.meaning.proofs.JudgeNatural.{note-map}
use Rattle.meaning.specs.Rows.{attributes_span}
use Rattle.cbor.specs.Ending.{code, item_end}
use Rattle.walk.specs.Reading.{Ends, Reads}
use Rattle.walk.proofs.Passed.{Here}
use Rattle.walk.proofs.Chains.{ate}
use Rattle.walk.proofs.ReadSays.{note-of}
use Rattle.table.specs.declared.span.Span.{Span}
use Rattle.table.specs.Spans.{span_of, SizeIs, WholeIs, WholeFrom, ItemIs}

-- an item takes as many bytes as its end says
pub item-size : (d : ℕ) (c : List ℕ) (t : Node Ends) (r : List ℕ) → Reads d c t r → SizeIs t (code (item_end d c))
item-size d c t r e =
    let a = ate d c t r e in
    let n = note-of d c t r e in
    let f = a.fits in
    let x : length (note_of t).start ≡ length c = ap (λ (p : Ends). length p.start) n in
    let y : length (note_of t).rest ≡ length c - a.size = ap (λ (p : Ends). length p.rest) n ∙ ap length a.is ∙ length-drop a.size c in
    ap code a.ends_so ∙ (omega arith)

-- an item that begins c, by how many bytes c has and how many the item takes
pub from-whole : (c : List ℕ) (size end : ℕ) (r : Span) → WholeIs (length c) size end r → WholeFrom c size end r
unfolding attributes_span
from-whole c size end r whole = record {
  is = λ d t q e sized.
      let a = ate d c t q e in
      let some_bytes : 0 < length c = let f = a.fits in let g = a.some in omega (arith, f, g) in
      let began : length (note_of t).start ≡ length c = ap (λ (p : Ends). length p.start) (note-of d c t q e) in
      whole (some t) began (λ u same. (some_bytes, subst (λ v. SizeIs v size) (same_in same) sized)) ∙ note-map (span_of end) t;
}
  where
    same_in : {x y : Node Ends} → ◌≡◌ {A = Option (Node Ends)} (some x) (some y) → x ≡ y
    same_in same = cc

-- an item, or none, at a place where it was passed over
module _ (d : ℕ) (m : List ℕ) (left end at size : ℕ) (there : at ≡ length m - left) (skipped : size ≡ code (item_end d (Here m at))) where
  pub item-there : (r : Span) → WholeIs left size end r → ItemIs d m left end r
  item-there r h none e = h none (sym e) (λ t z. absurd (let y : ◌≡◌ {A = ℕ} 0 1 = cc in omega arith))
  item-there r h (some t) (l, x) = h (some t) (sym x.left_is) (λ u z. let y : t ≡ u = cc in subst (λ (u : Node Ends). (0 < left) × SizeIs u size) y (l, sized))
    where
      sized : SizeIs t size
      sized = skipped ∙ ap (λ u. code (item_end d u)) (part_to_end m at ∙ ap (λ (i : ℕ). drop i m) there) ∙ item-size d (drop (length m - left) m) t x.rest x.reads
