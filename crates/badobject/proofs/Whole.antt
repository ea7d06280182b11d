-- An object from the slots of its entries, a branch each. s is lent whole to `walk::map`, which answered v.
use Prim.Native.Nat.{ℕ, ◌+◌, ◌<◌}
use mathlib.Core.List.{List, ◌++◌}
use mathlib.Core.Bool.{Bool, true, false, cond, ◌&&◌}
use mathlib.Core.Option.{Option, none, some}
use mathlib.Core.Path.{◌≡◌, refl, ap, sym, ◌∙◌, subst}
use native.Mathlib.Omega.{arith}
use lib.ListN.{length, get_or, drop, replicate}
use lib.Dec.{eqb}
use borrow.Author.Tests.{eq-eqb, ne_eqb, eqb-true, eqb-false}
use borrow.Author.Rules.{part_to_end}
use Rattle.meaning.specs.Tree.{Node, Pair}
use Rattle.meaning.specs.Model.{Word, Named}
use Rattle.meaning.specs.Field.{field}
use Rattle.meaning.specs.Layouts.{Layout, slot, dtype_at, layout_of}
use Rattle.meaning.specs.Judge as judge
use Rattle.meaning.proofs.Tests.{not-both, both_left, both_right}
use Rattle.walk.specs.Reading.{Ends, Reads}
use Rattle.walk.specs.Places.{MapIs}
use Rattle.walk.specs.declared.Opening.{Opening}
use Rattle.walk.proofs.Passed.{Here}
use Rattle.walk.proofs.Opens as opens
use Rattle.fields.specs.Slots.{Holds}
use Rattle.fields.proofs.Stands.{hold-none, Item, hold-some, field-stands}
use Rattle.component.proofs.Verdicts.{none_left}
use Rattle.object.specs.Verdict.{lacks_dtype, Fields, Standing}
use Rattle.object.proofs.Verdicts.{tensor-dtype, lacked}
use Rattle.explained.specs.Fields as at
use Rattle.explained.specs.Step as steps
use Rattle.explained.specs.Step.{Step, first}
use Rattle.explained.specs.Order.{missing, missing_in, object_steps}
use Rattle.explained.proofs.Whole.{agree-object}
use Rattle.explained.proofs.Why.{Refused, refused}
use Rattle.keys.specs.Odd.{slots_at}
use Rattle.keys.proofs.Parts.{of-object}
use Rattle.spot.specs.Shown.{spot}
use Rattle.spot.specs.Shown.{Spot}
use Rattle.badfields.specs.Fields.{entry_steps, FirstIs}
use Rattle.badfields.proofs.Firsts.{shown-past}
use Rattle.badfields.proofs.Entries.{entries-numbered}
use Rattle.badfields.proofs.Opened as opened
use Rattle.badfields.proofs.Opened.{Met, whole_is}
use Rattle.badfields.proofs.Maps.{table_is, map-entries, missing-not, missing-in-not}
use Rattle.badvalues.specs.Steps.{Alone, described_steps, value_steps}
use Rattle.badvalues.proofs.Alone.{spot-alone}
use Rattle.badparts.specs.Parts.{Owned}
use Rattle.badparts.specs.Parts.{owned, owned_by, rule_steps, part_steps}
use Rattle.badobject.specs.Owner.{lacks, owned_of, rest_steps, ValuesAre, ObjectIs}
use Rattle.badobject.proofs.Missing as gone
use Rattle.badobject.proofs.Missing.{step_at, step-alone, alone-owned, entries-plain}
use Rattle.std.specs.Prelude.{Some, None, Option as Optional}

-- ---------------------------------------------------------------- is a needed field missing?

module _ (layout : ℕ) (p : List ℕ) where
  pub lacks-shape : get_or p 1 0 ≡ 0 → true ≡ lacks layout p
  unfolding lacks
  lacks-shape e = rw (eq-eqb (get_or p 1 0) 0 e)

  module _ (a : get_or p 1 0 ≡ 0 → ⊥) where
    pub lacks-format : get_or p 2 0 ≡ 0 → true ≡ lacks layout p
    unfolding lacks
    lacks-format e = rw (ne_eqb (get_or p 1 0) 0 a, eq-eqb (get_or p 2 0) 0 e)

    module _ (b : get_or p 2 0 ≡ 0 → ⊥) where
      pub lacks-components : get_or p 4 0 ≡ 0 → true ≡ lacks layout p
      unfolding lacks
      lacks-components e = rw (ne_eqb (get_or p 1 0) 0 a, ne_eqb (get_or p 2 0) 0 b, eq-eqb (get_or p 4 0) 0 e)

      module _ (c : get_or p 4 0 ≡ 0 → ⊥) where
        pub lacks-dtype : layout ≡ 1 → eqb (get_or p 0 0) 0 ≡ lacks layout p
        unfolding lacks lacks_dtype
        lacks-dtype e = rw (ne_eqb (get_or p 1 0) 0 a, ne_eqb (get_or p 2 0) 0 b, ne_eqb (get_or p 4 0) 0 c, eq-eqb layout 1 e)

        pub lacks-nothing : (layout ≡ 1 → ⊥) → false ≡ lacks layout p
        unfolding lacks lacks_dtype
        lacks-nothing e = rw (ne_eqb (get_or p 1 0) 0 a, ne_eqb (get_or p 2 0) 0 b, ne_eqb (get_or p 4 0) 0 c, ne_eqb layout 1 e)

slots-of : (layout : ℕ) → slots_at layout 1 ≡ (layout_of layout).object
slots-of layout = of-object 1 (λ z. omega (arith, z)) refl layout

pub eight-places : (layout : ℕ) → replicate {A = ℕ} 8 0 ≡ replicate (length (slots_at layout 1) + 3) 0
eight-places layout = opened.zeros (slots_at layout 1) (layout_of layout).object (slots-of layout) 5 (layout_of layout).object_places

all_found : {A : Type 0} (u v w : Option A) (a b c : A) → u ≡ some a → v ≡ some b → w ≡ some c → (g : A → A → A → List (Step Ends))
    → first (steps.◌>>=◌ u (λ x. steps.◌>>=◌ v (λ y. steps.◌>>=◌ w (λ z. g x y z)))) ≡ first (g a b c)
all_found u v w a b c e f h g = rw (e, f, h) refl

-- ---------------------------------------------------------------- a map of these pairs

module _ (layout : ℕ) (start : ℕ) (s p : List ℕ) (t : Node Ends) (w : Word Ends) (k : Spot) (m : Met (layout_of layout).object 5 29 s p k t) where
  abbrev L : Layout
  L = layout_of layout

  abbrev ps : List (Pair Ends)
  ps = m.pairs

  abbrev value : ℕ → Option (Node Ends)
  value i = field (slot i L.object) ps

  stands : (i : ℕ) → i < 5 → Holds 29 s (get_or p i 0) (value i)
  stands = field-stands L.object 5 L.object_places 29 s ps m.last m.chain p m.slots L.object_apart

  -- missing fields, then values
  abbrev rest : List (Pair Ends) → List (Step Ends)
  rest ps = missing_in (at.dtype_on L at.object) t (field (at.dtype_on L at.object) ps) ++ (missing t (field (at.shape_field L) ps) ++ (missing t (field (at.format_of L) ps)
      ++ (missing t (field (at.components_field L) ps)
      ++ steps.◌>>=◌ (field (at.shape_field L) ps) (λ shape. steps.◌>>=◌ (field (at.format_of L) ps) (λ format. steps.◌>>=◌ (field (at.components_field L) ps) (λ components.
      rest_steps layout start (record {
        dtype = field (at.dtype_on L at.object) ps;
        shape = shape;
        format = format;
        attributes = field (at.attributes_on L at.object) ps;
        components = components;
      })))))))

  abbrev named : Named Ends
  named = record { name = w; value = t }

  entries-then : first (object_steps L start named) ≡ first (entry_steps L.object ps ++ rest ps)
  unfolding object_steps value_steps described_steps part_steps rule_steps
  entries-then = map-entries L.object t ps (table_is t ps m.kind-is) rest

  both : {x y : Bool} → x ≡ true → y ≡ true → (x && y) ≡ true
  both a b = rw (a, b) refl

  has-dtype : lacks_dtype layout (get_or p 0 0) ≡ false → layout ≡ 1 → value 0 ≡ none → ⊥
  unfolding lacks_dtype
  has-dtype e o none-there = not-both (both (eq-eqb layout 1 o) (eq-eqb _ _ (none_left 29 s _ (value 0) (stands 0 (omega arith)) none-there))) e

  no-dtype-left : lacks_dtype layout (get_or p 0 0) ≡ true → first (rest ps) ≡ some (step_at 12 t)
  unfolding lacks_dtype
  no-dtype-left e =
      gone.here_in t _ (slot dtype_at L.object) (value 0) (tensor-dtype layout ∙ both_left (eqb layout 1) (eqb (get_or p 0 0) 0) e)
      (hold-none 29 s (get_or p 0 0) (value 0) (stands 0 (omega arith)) (eqb-true (get_or p 0 0) 0 (both_right (eqb layout 1) (eqb (get_or p 0 0) 0) e)))

  -- the fields that it needs are there
  record Ready : Type 0 where
    pub fields : Fields
    pub standing : Standing layout s p fields
    pub values-then : first (rest ps) ≡ first (rest_steps layout start fields)

  abbrev Told : Bool → Type 0
  Told true = first (rest ps) ≡ some (step_at 12 t)
  Told false = Ready

  told : Told (lacks layout p)
  unfolding lacks
  told = go (eqb (get_or p 1 0) 0) refl (eqb (get_or p 2 0) 0) refl (eqb (get_or p 4 0) 0) refl (lacks_dtype layout (get_or p 0 0)) refl
    where
      nowhere : (i : ℕ) → i < 5 → eqb (get_or p i 0) 0 ≡ true → value i ≡ none
      nowhere i l e = hold-none 29 s (get_or p i 0) (value i) (stands i l) (eqb-true (get_or p i 0) 0 e)

      there : (i : ℕ) → i < 5 → eqb (get_or p i 0) 0 ≡ false → Item 29 s (get_or p i 0) (value i)
      there i l e = hold-some 29 s (get_or p i 0) (value i) (stands i l) (eqb-false (get_or p i 0) 0 e)

      go : (x : Bool) → eqb (get_or p 1 0) 0 ≡ x → (y : Bool) → eqb (get_or p 2 0) 0 ≡ y → (z : Bool) → eqb (get_or p 4 0) 0 ≡ z → (d : Bool) → lacks_dtype layout (get_or p 0 0) ≡ d
          → Told (cond x true (cond y true (cond z true d)))
      go true a y b z c d e = gone.later-in t _ (slot dtype_at L.object) (value 0) (gone.here t _ (value 1) (nowhere 1 (omega arith) a))
      go false a true b z c d e = gone.later-in t _ (slot dtype_at L.object) (value 0) (gone.later t _ (value 1) (gone.here t _ (value 2) (nowhere 2 (omega arith) b)))
      go false a false b true c d e =
          gone.later-in t _ (slot dtype_at L.object) (value 0) (gone.later t _ (value 1) (gone.later t _ (value 2) (gone.here t _ (value 4) (nowhere 4 (omega arith) c))))
      go false a false b false c true e = no-dtype-left e
      go false a false b false c false e =
          let i = there 1 (omega arith) a in let j = there 2 (omega arith) b in let k = there 4 (omega arith) c in
          record {
            fields = record { dtype = value 0; shape = i.item; format = j.item; attributes = value 3; components = k.item };
            standing = record {
              dtype = stands 0 (omega arith);
              shape = i.stands;
              format = j.stands;
              attributes = stands 3 (omega arith);
              components = k.stands;
              tensor = has-dtype e;
              plain = λ o. lacked (slot dtype_at L.object) ps (tensor-dtype layout ∙ ne_eqb layout 1 o);
            };
            values-then =
                missing-in-not t _ refl _ (slot dtype_at L.object) (value 0) (λ has none-there. has-dtype e (eqb-true layout 1 (sym (tensor-dtype layout) ∙ has)) none-there)
                ∙ missing-not t _ refl _ (value 1) i.item i.is ∙ missing-not t _ refl _ (value 2) j.item j.is ∙ missing-not t _ refl _ (value 4) k.item k.is
                ∙ all_found (value 1) (value 2) (value 4) i.item j.item k.item i.is j.is k.is _;
          }

  pub entries-stop : (k.number ≡ 0 → ⊥) → Alone k.number k.left (first (object_steps L start named))
  entries-stop e = let a = spot-alone (entry_steps L.object ps) (entries-plain L.object ps) k m.first-is e (rest ps) in
      record { this = a.this; is = entries-then ∙ a.is; number = a.number; place = a.place; owner = a.owner }

  module _ (z : k.number ≡ 0) where
    past-entries : first (object_steps L start named) ≡ first (rest ps)
    past-entries = entries-then ∙ shown-past (entry_steps L.object ps) k m.first-is (entries-numbered L.object ps) z (rest ps)

    pub lacking : lacks layout p ≡ true → first (object_steps L start named) ≡ some (step_at 12 t)
    lacking e = past-entries ∙ subst Told e told

    pub complete : lacks layout p ≡ false → (n c : ℕ) (r : Owned) → ValuesAre layout s start p n c r
        → (x : Step Ends) → first (object_steps L start named) ≡ some x → x.number ≡ n → x.component ≡ c → r ≡ owned_by x
    complete e n c r h x b i j = let y : Ready = subst Told e told in h y.fields y.standing x (sym (past-entries ∙ y.values-then) ∙ b) i j

-- ---------------------------------------------------------------- whatever is read at s

module _ (layout : ℕ) (s : List ℕ) (start n c : ℕ) (v : Optional Opening) (h : MapIs (Here s 0) v) where
  -- told without a component
  alone : (k left : ℕ) (f : Option (Step Ends)) → Alone k left f → (z : Spot) → z ≡ spot k left → (r : Owned) → r ≡ owned z 0 → r ≡ owned_of f
  alone k left f a z i r j = j ∙ ap (λ (u : Spot). owned u 0) i ∙ alone-owned k left f a

  pub not-map : v ≡ None → (z : Spot) → z ≡ spot 8 (length s) → (r : Owned) → r ≡ owned z 0 → ObjectIs layout s start n c r
  unfolding object_steps
  not-map e z i r j t q y w o x =
      alone 8 (length s) _ (step-alone 8 (length s) t (whole_is 29 s t q y) _ (gone.no-map (layout_of layout).object t (opens.opening s v h None e 29 t q y) _)) z i r j

  module _ (op : Opening) (e : v ≡ Some op) (p : List ℕ) (k : Spot) (f : FirstIs (slots_at layout 1) 29 op.mode op.count (Here s op.size) p k) where
    met : (t : Node Ends) (q : List ℕ) → Reads 30 s t q → Met (layout_of layout).object 5 29 (drop op.size s) p k t
    met = opened.met (slots_at layout 1) (layout_of layout).object (slots-of layout) 5 (layout_of layout).object_places 29 s v h op e p k f

    pub stops : (k.number ≡ 0 → ⊥) → (u : Spot) → u ≡ k → (r : Owned) → r ≡ owned u 0 → ObjectIs layout s start n c r
    stops z u same r j t q y w o x =
        alone k.number k.left _ (entries-stop layout start (drop op.size s) p t w k (met t q y) z) u same r j

    module _ (z : k.number ≡ 0) (b : Bool) (so : b ≡ lacks layout p) where
      pub lacks-one : b ≡ true → (u : Spot) → u ≡ spot 12 (length s) → (r : Owned) → r ≡ owned u 0 → ObjectIs layout s start n c r
      lacks-one g u i r j t q y w o x =
          alone 12 (length s) _ (step-alone 12 (length s) t (whole_is 29 s t q y) _ (lacking layout start (drop op.size s) p t w k (met t q y) z (sym so ∙ g))) u i r j

      pub has_all : b ≡ false → (r : Owned) → ValuesAre layout (Here s op.size) start p n c r → ObjectIs layout s start n c r
      unfolding owned_of
      has_all g r a t q y w o x =
          let d : Refused (object_steps (layout_of layout) start (record { name = w; value = t })) n o c = refused _ (judge.object (layout_of layout) start (record { name = w; value = t })) (agree-object (layout_of layout) start (record { name = w; value = t })) n o c x in
          complete layout start (drop op.size s) p t w k (met t q y) z (sym so ∙ g) n c r
          (subst (λ u. ValuesAre layout u start p n c r) (part_to_end s op.size) a) d.this d.shown d.number d.component
          ∙ ap owned_of (sym d.shown)
