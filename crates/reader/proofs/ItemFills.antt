-- The item that a manifest s is read as, from where the walk over it ended: refused, or a tree that fills s exactly.
use Prim.Native.Nat.{ℕ, ◌+◌, ◌-◌, ◌≤◌, ◌<◌}
use native.Mathlib.Omega.{arith}
use mathlib.Core.List.{List, [], ◌∷◌}
use mathlib.Core.Path.{◌≡◌, refl, sym, ap, ◌∙◌}
use lib.ListN.{length, length-drop}
use Rattle.meaning.specs.Tree.{Node, map_p}
use Rattle.meaning.specs.Check.{Check, pass, refuse, fault}
use Rattle.meaning.specs.Refusal.{CBOR}
use Rattle.meaning.specs.Read.{Outcome, got, refused, after, Span, span_to, item, no_note, closed, manifest}
use Rattle.meaning.specs.Frame.{checked}
use Rattle.meaning.proofs.ReadNatural.{map_out, item-follows}
use Rattle.cbor.specs.Ending.{took, FAULT, code, ending, item_end}
use Rattle.cbor.proofs.Ends.{is-took, fine-ending}
use Rattle.cbor.proofs.Agree.{annotations-change-no-ending, rest-follows}
use Rattle.walk.specs.Reading.{Ends, ends, Reads}
use Rattle.table.specs.Spans.{span_of}

abbrev closing : Outcome (Node Span) → Check (Node Span)
closing o = checked (after o closed)

closed-refuses : (t : Node Span) (r : List ℕ) → 0 < length r → closing (got t r) ≡ fault CBOR
unfolding closed checked
closed-refuses t [] l = absurd (omega arith)
closed-refuses t (b ∷ r) l = refl

closed-passes : (t : Node Span) (r : List ℕ) → length r ≡ 0 → closing (got t r) ≡ pass t
unfolding closed checked
closed-passes t [] l = refl
closed-passes t (b ∷ r) l = absurd (omega arith)

refused-so : (n : ℕ) (q : List ℕ) → closing (refused n q) ≡ fault n
unfolding checked
refused-so n q = refl

-- the root fills the manifest exactly
pub record Filling (end : ℕ) (s : List ℕ) : Type 0 where
  pub tree : Node Ends
  pub rest : List ℕ
  pub reads : Reads 32 s tree rest
  pub is : checked (manifest (span_to end) s) ≡ pass (map_p (span_of end) tree)

-- malformed, ended early or too deep
pub record Faulty (end : ℕ) (s : List ℕ) (e : ℕ) : Type 0 where
  pub high : FAULT ≤ e
  pub is : checked (manifest (span_to end) s) ≡ refuse (e - FAULT) 0 0

-- the walk over s, lent whole, ended at e
module _ (end : ℕ) (s : List ℕ) (e : ℕ) (ended : e ≡ code (item_end 32 s)) where
  read-so : (o : Outcome (Node Ends)) → item ends 32 s ≡ o → checked (manifest (span_to end) s) ≡ closing (map_out (map_p (span_of end)) o)
  unfolding manifest
  read-so o e = ap closing (item-follows (span_of end) ends 32 s ∙ ap (map_out (map_p (span_of end))) e)

  ended_so : (o : Outcome (Node Ends)) → item ends 32 s ≡ o → e ≡ code (ending s o)
  ended_so o h = ended ∙ ap code (sym (annotations-change-no-ending ends 32 s) ∙ ap (ending s) h)

  pub faulty : length s < e → Faulty end s e
  faulty l = go (item ends 32 s) refl
    where
      go : (o : Outcome (Node Ends)) → item ends 32 s ≡ o → Faulty end s e
      go (got t r) h = let z : e ≡ length s - length r = ended_so (got t r) h in absurd (omega arith)
      go (refused n q) h =
          let z : e ≡ FAULT + n = ended_so (refused n q) h in
          let y : e - FAULT ≡ n = omega arith in
          record { high = omega arith; is = read-so (refused n q) h ∙ refused-so n q ∙ ap (λ (i : ℕ). refuse i 0 0) (sym y) }

  module _ (room : length s < FAULT) where
    pub left_over : e < length s → checked (manifest (span_to end) s) ≡ refuse CBOR 0 0
    left_over l = go (item ends 32 s) refl
      where
        go : (o : Outcome (Node Ends)) → item ends 32 s ≡ o → checked (manifest (span_to end) s) ≡ refuse CBOR 0 0
        go (got t r) h =
            let z : e ≡ length s - length r = ended_so (got t r) h in
            read-so (got t r) h ∙ closed-refuses (map_p (span_of end) t) r (omega arith)
        go (refused n q) h = let z : e ≡ FAULT + n = ended_so (refused n q) h in absurd (omega arith)

    pub filling : length s ≡ e → Filling end s
    filling l = go (item ends 32 s) refl
      where
        go : (o : Outcome (Node Ends)) → item ends 32 s ≡ o → Filling end s
        go (got t r) h =
            let z : item_end 32 s ≡ took e = is-took s room e (item_end 32 s) (fine-ending s (item no_note 32 s)) ended (omega arith) in
            let y : length r ≡ 0 = ap length (rest-follows ends 32 s t r e h z) ∙ length-drop e s ∙ omega arith in
            record { tree = t; rest = r; reads = h; is = read-so (got t r) h ∙ closed-passes (map_p (span_of end) t) r y }
        go (refused n q) h = let z : e ≡ FAULT + n = ended_so (refused n q) h in absurd (omega arith)
