-- A component from the slots of its entries, a branch each. c is lent whole to `walk::map`, which answered x.
use Prim.Native.Nat.{ℕ, ◌+◌, ◌<◌}
use mathlib.Core.List.{List, ◌++◌}
use mathlib.Core.Bool.{Bool, true, false, cond, not, ◌&&◌}
use mathlib.Core.Option.{Option, none, some}
use mathlib.Core.Path.{◌≡◌, refl, ap, sym, ◌∙◌, subst}
use native.Mathlib.Omega.{arith}
use lib.ListN.{length, get_or, drop, replicate}
use lib.Dec.{eqb}
use borrow.Author.Tests.{eq-eqb, ne_eqb, eqb-true, eqb-false}
use borrow.Author.Rules.{part_to_end}
use Rattle.meaning.specs.Tree.{Node, Pair, note_of}
use Rattle.meaning.specs.Model.{Word, Named}
use Rattle.meaning.specs.Field.{field, is_some}
use Rattle.meaning.specs.Layouts.{Layout, slot, dtype_at, layout_of}
use Rattle.meaning.proofs.Tests.{not-both, both_left, both_right}
use Rattle.walk.specs.Reading.{Ends, Reads}
use Rattle.walk.specs.Places.{MapIs}
use Rattle.walk.specs.declared.Opening.{Opening}
use Rattle.walk.proofs.Passed.{Here}
use Rattle.walk.proofs.Opens as opens
use Rattle.fields.specs.Slots.{Holds}
use Rattle.fields.proofs.Stands.{hold-none, Item, hold-some, field-stands}
use Rattle.component.specs.Verdict.{lacks_dtype, Fields, Found}
use Rattle.component.proofs.Verdicts.{own-dtype, none_left}
use Rattle.explained.specs.Fields as at
use Rattle.explained.specs.Step as steps
use Rattle.explained.specs.Step.{Step, first}
use Rattle.explained.specs.Order.{missing, missing_in, component_steps, length_note, length_in, note_or}
use Rattle.keys.specs.Odd.{slots_at}
use Rattle.keys.proofs.Parts.{of-component}
use Rattle.spot.specs.Shown.{spot, shown}
use Rattle.spot.specs.Shown.{Spot}
use Rattle.badfields.specs.Fields.{entry_steps, FirstIs}
use Rattle.badfields.proofs.Firsts.{shown-here, shown-past}
use Rattle.badfields.proofs.Entries.{entries-numbered}
use Rattle.badfields.proofs.Opened as opened
use Rattle.badfields.proofs.Opened.{Met, whole_is}
use Rattle.badfields.proofs.Maps.{table_is, no-map, map-entries, missing-here, missing-later, missing-not, missing-in-here, missing-in-later, missing-in-not}
use Rattle.badcomponent.specs.Steps.{lacks, either_of, blob_steps, extra_steps, extent_steps, value_steps, ValuesAre, ComponentIs, LengthIs}
use Rattle.badcomponent.proofs.Storage.{none-there, one-there}
use Rattle.std.specs.Prelude.{Some, None, Option as Optional}

-- ---------------------------------------------------------------- is a needed field missing?

module _ (layout : ℕ) (p : List ℕ) where
  pub lacks-offset : get_or p 2 0 ≡ 0 → true ≡ lacks layout p
  unfolding lacks
  lacks-offset e = rw (eq-eqb (get_or p 2 0) 0 e)

  module _ (a : get_or p 2 0 ≡ 0 → ⊥) where
    pub lacks-length : get_or p 3 0 ≡ 0 → true ≡ lacks layout p
    unfolding lacks
    lacks-length e = rw (ne_eqb (get_or p 2 0) 0 a, eq-eqb (get_or p 3 0) 0 e)

    pub lacks-dtype : (get_or p 3 0 ≡ 0 → ⊥) → {b : Bool} → b ≡ lacks_dtype layout (get_or p 0 0) → b ≡ lacks layout p
    unfolding lacks
    lacks-dtype e k = k ∙ (rw (ne_eqb (get_or p 2 0) 0 a, ne_eqb (get_or p 3 0) 0 e) refl)

slots-of : (layout : ℕ) → slots_at layout 2 ≡ (layout_of layout).component
slots-of layout = of-component 2 (λ z. omega (arith, z)) (λ z. omega (arith, z)) layout

pub ten-places : (layout : ℕ) → replicate {A = ℕ} 10 0 ≡ replicate (length (slots_at layout 2) + 3) 0
ten-places layout = opened.zeros (slots_at layout 2) (layout_of layout).component (slots-of layout) 7 (layout_of layout).component_places

both_found : {A : Type 0} (v w : Option A) (a b : A) → v ≡ some a → w ≡ some b → (g : A → A → List (Step Ends)) → first (steps.◌>>=◌ v (λ x. steps.◌>>=◌ w (λ y. g x y))) ≡ first (g a b)
both_found v w a b e f g = rw (e, f) refl

-- ---------------------------------------------------------------- a map of these pairs

module _ (layout : ℕ) (above : Option ℕ) (start : ℕ) (s p : List ℕ) (t : Node Ends) (n : Word Ends) (whole : ℕ) (left : whole ≡ length (note_of t).start)
    (k : Spot) (m : Met (layout_of layout).component 7 27 s p k t) where
  abbrev L : Layout
  L = layout_of layout

  abbrev ps : List (Pair Ends)
  ps = m.pairs

  abbrev value : ℕ → Option (Node Ends)
  value i = field (slot i L.component) ps

  stands : (i : ℕ) → i < 7 → Holds 27 s (get_or p i 0) (value i)
  stands = field-stands L.component 7 L.component_places 27 s ps m.last m.chain p m.slots L.component_apart

  abbrev fields_of : Node Ends → Node Ends → Fields
  fields_of offset length = record { dtype = value 0; type = value 1; offset = offset; length = length; unpacked = value 4; encoding = value 5; digest = value 6 }

  -- missing fields, then values
  abbrev rest : List (Pair Ends) → List (Step Ends)
  rest ps = missing_in (at.dtype_on L at.component) t (field (at.dtype_on L at.component) ps) ++ (missing t (field (at.offset_of L) ps) ++ (missing t (field (at.length_of L) ps)
      ++ steps.◌>>=◌ (field (at.offset_of L) ps) (λ offset. steps.◌>>=◌ (field (at.length_of L) ps) (λ length.
      value_steps L above start t (record {
        dtype = field (at.dtype_on L at.component) ps;
        type = field (at.type_of L) ps;
        offset = offset;
        length = length;
        unpacked = field (at.unpacked_of L) ps;
        encoding = field (at.encoding_of L) ps;
        digest = field (at.digest_of L) ps;
      })))))

  abbrev named : Named Ends
  named = record { name = n; value = t }

  entries-then : first (component_steps L start above named) ≡ first (entry_steps L.component ps ++ rest ps)
  unfolding component_steps value_steps extent_steps extra_steps blob_steps
  entries-then = map-entries L.component t ps (table_is t ps m.kind-is) rest

  pub no-dtype-left : lacks_dtype layout (get_or p 0 0) ≡ true → spot 12 whole ≡ shown (first (rest ps))
  unfolding lacks_dtype
  no-dtype-left e =
      missing-in-here t whole left _ (slot dtype_at L.component) (value 0) (own-dtype layout ∙ both_left (not (eqb layout 1)) (eqb (get_or p 0 0) 0) e)
      (hold-none 27 s (get_or p 0 0) (value 0) (stands 0 (omega arith)) (eqb-true (get_or p 0 0) 0 (both_right (not (eqb layout 1)) (eqb (get_or p 0 0) 0) e)))

  dtype-there : lacks_dtype layout (get_or p 0 0) ≡ false → is_some (slot dtype_at L.component) ≡ true → value 0 ≡ none → ⊥
  unfolding lacks_dtype
  dtype-there e has gone = not-both (both (sym (own-dtype layout) ∙ has) (eq-eqb _ _ (none_left 27 s _ (value 0) (stands 0 (omega arith)) gone))) e
    where
      both : {x y : Bool} → x ≡ true → y ≡ true → (x && y) ≡ true
      both a b = rw (a, b) refl

  -- the fields that it needs are there
  record Ready : Type 0 where
    pub fields : Fields
    pub found : Found 26 s p fields
    pub values-then : first (rest ps) ≡ first (value_steps L above start t fields)

  abbrev Told : Bool → Type 0
  Told true = spot 12 whole ≡ shown (first (rest ps))
  Told false = Ready

  told : Told (lacks layout p)
  unfolding lacks
  told = go (eqb (get_or p 2 0) 0) refl (eqb (get_or p 3 0) 0) refl (lacks_dtype layout (get_or p 0 0)) refl
    where
      nowhere : (i : ℕ) → i < 7 → eqb (get_or p i 0) 0 ≡ true → value i ≡ none
      nowhere i l e = hold-none 27 s (get_or p i 0) (value i) (stands i l) (eqb-true (get_or p i 0) 0 e)

      there : (i : ℕ) → i < 7 → eqb (get_or p i 0) 0 ≡ false → Item 27 s (get_or p i 0) (value i)
      there i l e = hold-some 27 s (get_or p i 0) (value i) (stands i l) (eqb-false (get_or p i 0) 0 e)

      go : (x : Bool) → eqb (get_or p 2 0) 0 ≡ x → (y : Bool) → eqb (get_or p 3 0) 0 ≡ y → (z : Bool) → lacks_dtype layout (get_or p 0 0) ≡ z → Told (cond x true (cond y true z))
      go true a y b z c = missing-in-later t whole left _ (slot dtype_at L.component) (value 0) (missing-here t whole left _ (value 2) (nowhere 2 (omega arith) a))
      go false a true b z c =
          missing-in-later t whole left _ (slot dtype_at L.component) (value 0) (missing-later t whole left _ (value 2) (missing-here t whole left _ (value 3) (nowhere 3 (omega arith) b)))
      go false a false b true c = no-dtype-left c
      go false a false b false c =
          let o = there 2 (omega arith) a in let l = there 3 (omega arith) b in
          record {
            fields = fields_of o.item l.item;
            found = record {
              dtype = stands 0 (omega arith);
              type = stands 1 (omega arith);
              offset = o.stands;
              length = l.stands;
              unpacked = stands 4 (omega arith);
              encoding = stands 5 (omega arith);
              digest = stands 6 (omega arith);
            };
            values-then =
                missing-in-not t whole left _ (slot dtype_at L.component) (value 0) (dtype-there c)
                ∙ missing-not t whole left _ (value 2) o.item o.is ∙ missing-not t whole left _ (value 3) l.item l.is
                ∙ both_found (value 2) (value 3) o.item l.item o.is l.is _;
          }

  pub entries-stop : (k.number ≡ 0 → ⊥) → k ≡ shown (first (component_steps L start above named))
  entries-stop e = shown-here (entry_steps L.component ps) k m.first-is (rest ps) e ∙ ap shown (sym entries-then)

  module _ (z : k.number ≡ 0) where
    past-entries : first (component_steps L start above named) ≡ first (rest ps)
    past-entries = entries-then ∙ shown-past (entry_steps L.component ps) k m.first-is (entries-numbered L.component ps) z (rest ps)

    pub lacking : lacks layout p ≡ true → spot 12 whole ≡ shown (first (component_steps L start above named))
    lacking e = subst Told e told ∙ ap shown (sym past-entries)

    pub complete : lacks layout p ≡ false → (r : Spot) → ValuesAre L above s start p whole r → r ≡ shown (first (component_steps L start above named))
    complete e r h = let w : Ready = subst Told e told in h 26 w.fields w.found t left ∙ ap shown (sym (past-entries ∙ w.values-then))

  -- where the length stands, or else the component
  pub length-there : either_of (get_or p 3 0) whole ≡ length (length_note L named).start
  unfolding length_note length_in note_or
  length-there = rw (table_is t ps m.kind-is) (go (value 3) (stands 3 (omega arith)))
    where
      go : (v : Option (Node Ends)) → Holds 27 s (get_or p 3 0) v → either_of (get_or p 3 0) whole ≡ length (note_or (note_of t) v).start
      go none h = sym (none-there (get_or p 3 0) whole h) ∙ left
      go (some x) h = sym (one-there (get_or p 3 0) whole (λ z. let k = h.0 in omega (arith, k, z))) ∙ h.1.left_is

-- ---------------------------------------------------------------- whatever is read at c

module _ (layout : ℕ) (c : List ℕ) (x : Optional Opening) (h : MapIs (Here c 0) x) where
  module _ (e : x ≡ None) where
    pub not-map : (above : Option ℕ) (start : ℕ) (r : Spot) → r ≡ spot 8 (length c) → ComponentIs (layout_of layout) above c start r
    unfolding component_steps
    not-map above start r k t q y n = k ∙ ap (spot 8) (whole_is 27 c t q y) ∙ no-map (layout_of layout).component t (opens.opening c x h None e 27 t q y) _

    pub no_length : LengthIs (layout_of layout) c (length c)
    unfolding length_note length_in
    no_length t q y n = rw (opens.opening c x h None e 27 t q y) (whole_is 27 c t q y)

  module _ (op : Opening) (e : x ≡ Some op) (p : List ℕ) (k : Spot) (f : FirstIs (slots_at layout 2) 27 op.mode op.count (Here c op.size) p k) where
    met : (t : Node Ends) (q : List ℕ) → Reads 28 c t q → Met (layout_of layout).component 7 27 (drop op.size c) p k t
    met = opened.met (slots_at layout 2) (layout_of layout).component (slots-of layout) 7 (layout_of layout).component_places 27 c x h op e p k f

    module _ (above : Option ℕ) (start : ℕ) where
      pub stops : (k.number ≡ 0 → ⊥) → {r : Spot} → r ≡ k → ComponentIs (layout_of layout) above c start r
      stops z same t q y n = same ∙ entries-stop layout above start (drop op.size c) p t n (length c) (whole_is 27 c t q y) k (met t q y) z

      module _ (z : k.number ≡ 0) (b : Bool) (so : b ≡ lacks layout p) where
        pub lacks-one : b ≡ true → (r : Spot) → r ≡ spot 12 (length c) → ComponentIs (layout_of layout) above c start r
        lacks-one w r v t q y n =
            v ∙ lacking layout above start (drop op.size c) p t n (length c) (whole_is 27 c t q y) k (met t q y) z
            (sym so ∙ w)

        pub has_all : b ≡ false → (r : Spot) → ValuesAre (layout_of layout) above (Here c op.size) start p (length c) r → ComponentIs (layout_of layout) above c start r
        has_all w r v t q y n =
            complete layout above start (drop op.size c) p t n (length c) (whole_is 27 c t q y) k (met t q y) z
            (sym so ∙ w) r (subst (λ u. ValuesAre (layout_of layout) above u start p (length c) r) (part_to_end c op.size) v)

    pub length-is : (r : ℕ) → r ≡ either_of (get_or p 3 0) (length c) → LengthIs (layout_of layout) c r
    length-is r v t q y n =
        v ∙ length-there layout none 0 (drop op.size c) p t n (length c) (whole_is 27 c t q y) k (met t q y)
