-- The whole root: no map; or its keys and repeats, and then its values. s is lent whole to `walk::map`, which answered x.
use Prim.Native.Nat.{ℕ, ◌+◌}
use mathlib.Core.List.{List, ◌++◌}
use mathlib.Core.Path.{◌≡◌, refl, ap, sym, ◌∙◌, subst}
use native.Mathlib.Omega.{arith}
use lib.ListN.{length, get_or, drop, replicate}
use borrow.Author.Rules.{part_to_end}
use Rattle.meaning.specs.Tree.{Node, Pair}
use Rattle.meaning.specs.Check.{pass, fault}
use Rattle.meaning.specs.Refusal.{KIND}
use Rattle.meaning.specs.Kind.{kind, mapping, a_mapping, as_mapping}
use Rattle.meaning.specs.Layouts.{Layout, layout_of}
use Rattle.meaning.specs.Field.{field}
use Rattle.walk.specs.Reading.{Ends, Reads}
use Rattle.walk.specs.Places.{MapIs}
use Rattle.walk.specs.declared.Opening.{Opening}
use Rattle.walk.proofs.Passed.{Here}
use Rattle.walk.proofs.ReadSays.{note-of}
use Rattle.walk.proofs.Opens as opens
use Rattle.fields.specs.Slots.{Holds}
use Rattle.fields.proofs.Stands.{field-stands, holds-whole}
use Rattle.explained.specs.Fields.{objects_field}
use Rattle.explained.specs.Step.{first}
use Rattle.explained.specs.Order.{mapping_steps, field_steps}
use Rattle.keys.specs.Odd.{slots_at}
use Rattle.keys.proofs.Parts.{of-root}
use Rattle.badfields.specs.Fields.{entry_steps, FirstIs}
use Rattle.badfields.proofs.Entries.{entries-numbered}
use Rattle.badfields.proofs.Opened as opened
use Rattle.badfields.proofs.Opened.{Met, whole_is}
use Rattle.badfields.proofs.Firsts.{shown-here, shown-past}
use Rattle.spot.specs.Shown.{spot, shown}
use Rattle.spot.specs.Shown.{Spot}
use Rattle.badnames.specs.Keys.{Tells}
use Rattle.badroot.specs.Opening.{value_steps, opening_steps, Stood, ValuesIs, RootIs, ObjectsAt}
use Rattle.std.specs.Prelude.{Some, None, Option}

opening-first : (L : Layout) (t : Node Ends) (ps : List (Pair Ends)) → kind t ≡ mapping ps → first (opening_steps L t) ≡ first (entry_steps L.root ps ++ value_steps L t ps)
unfolding opening_steps field_steps mapping_steps a_mapping as_mapping
opening-first L t ps e = rw e refl

pub six-places : (layout : ℕ) → replicate {A = ℕ} 6 0 ≡ replicate (length (slots_at layout 0) + 3) 0
six-places layout = opened.zeros (slots_at layout 0) (layout_of layout).root (of-root 0 refl layout) 3 (layout_of layout).root_places

module _ (layout : ℕ) (s : List ℕ) (x : Option Opening) (h : MapIs (Here s 0) x) where
  abbrev L : Layout
  L = layout_of layout

  module _ (e : x ≡ None) where
    pub no-root : {n : ℕ} {r : Spot} → r ≡ spot KIND (length s) → RootIs L s n r
    unfolding opening_steps field_steps mapping_steps shown
    no-root is t q reads by = is ∙ sym ((rw (opens.opening s x h None e 31 t q reads) refl) ∙ ap (λ (y : Ends). spot KIND (length y.start)) (note-of 32 s t q reads))

    pub nothing-stands : ObjectsAt L s 0
    unfolding a_mapping as_mapping
    nothing-stands t q reads ps is =
        let z : pass ps ≡ fault KIND = (rw is refl) ∙ opens.opening s x h None e 31 t q reads in
        absurd (let y : ◌≡◌ {A = ℕ} 0 1 = cc in omega arith)

  module _ (op : Opening) (is : x ≡ Some op) (p : List ℕ) (k : Spot) (asked : FirstIs (slots_at layout 0) 31 op.mode op.count (Here s op.size) p k) where
    met : (t : Node Ends) (q : List ℕ) → Reads 32 s t q → Met L.root 3 31 (drop op.size s) p k t
    met = opened.met (slots_at layout 0) L.root (of-root 0 refl layout) 3 L.root_places 31 s x h op is p k asked

    stood : (t : Node Ends) (q : List ℕ) (reads : Reads 32 s t q) → Stood L (drop op.size s) p (met t q reads).pairs
    stood t q reads = let m = met t q reads in field-stands L.root 3 L.root_places 31 (drop op.size s) m.pairs m.last m.chain p m.slots L.root_apart

    pub objects-stand : (left : ℕ) → left ≡ get_or p 2 0 → ObjectsAt L s left
    objects-stand left e t q reads ps kt =
        let m = met t q reads in
        let y : m.pairs ≡ ps = let z : mapping m.pairs ≡ mapping ps = sym m.kind-is ∙ kt in cc in
        let f = subst (λ ps. Holds 31 (drop op.size s) (get_or p 2 0) (field (objects_field L) ps)) y (stood t q reads 2 (omega arith)) in
        holds-whole 31 s op.size (opens.size-inside s x h op is) left (field (objects_field L) ps) (subst (λ l. Holds 31 (drop op.size s) l (field (objects_field L) ps)) (sym e) f)

    pub keys-break : {n : ℕ} → (k.number ≡ 0 → ⊥) → {r : Spot} → r ≡ k → RootIs L s n r
    keys-break broken same t q reads by =
        let m = met t q reads in
        same ∙ shown-here (entry_steps L.root m.pairs) k m.first-is (value_steps L t m.pairs) broken ∙ ap shown (sym (opening-first L t m.pairs m.kind-is))

    pub keys-pass : {n : ℕ} {r : Spot} → k.number ≡ 0 → ValuesIs (Here s op.size) p (length s) n r → RootIs L s n r
    keys-pass {n} {r} fine values t q reads =
        let m = met t q reads in
        let v : ValuesIs (drop op.size s) p (length s) n r = subst (λ u. ValuesIs u p (length s) n r) (part_to_end s op.size) values in
        let past = shown-past (entry_steps L.root m.pairs) k m.first-is (entries-numbered L.root m.pairs) fine (value_steps L t m.pairs) in
        subst (λ f. Tells n f r) (sym (opening-first L t m.pairs m.kind-is ∙ past))
        (v L t m.pairs (sym (whole_is 31 s t q reads)) (stood t q reads))
