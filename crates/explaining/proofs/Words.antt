-- The name of the component that a check belongs to is a text that stands in the manifest.
use Prim.Native.Nat.{ℕ, suc, ◌-◌, ◌≤◌, ◌<◌}
use native.Mathlib.Omega.{arith}
use mathlib.Core.List.{List}
use mathlib.Core.Option.{Option, some}
use mathlib.Core.Path.{◌≡◌, refl, sym, ap, ◌∙◌, subst}
use lib.ListN.{length, drop}
use Rattle.meaning.specs.Tree.{Node, note_of}
use Rattle.meaning.specs.Check.{pass, refuse}
use Rattle.meaning.specs.Limit.{object_limit, component_limit}
use Rattle.meaning.specs.Model.{Word, Named}
use Rattle.meaning.specs.Kind.{a_word, a_mapping}
use Rattle.meaning.specs.Read.{got}
use Rattle.meaning.specs.Layouts.{Layout}
use Rattle.meaning.specs.Judge.{judge}
use Rattle.meaning.proofs.ReadPrefix.{alike}
use Rattle.walk.specs.Reading.{Ends, Reads}
use Rattle.fields.specs.Slots.{Stands, Holds}
use Rattle.fields.proofs.Stands.{some_left, stands_at, field-found-stands}
use Rattle.table.specs.WordAt.{WordAt, bare, lettered}
use Rattle.table.proofs.Lettered.{word-note}
use Rattle.explained.specs.Fields.{Sided, objects_field, components_field}
use Rattle.explained.specs.Breaks.{Field, Under, Called, nobody, of_object, of_component, Said}
use Rattle.explained.proofs.Truly.{Truly, truly-this}
use Rattle.explained.proofs.TruthWhole.{truth-manifest}
use Rattle.explained.proofs.Why.{manifest-refused}
use Rattle.entry.specs.Nth.{in_table, EntryIs}
use Rattle.indexed.specs.Entry.{EntryAt}
use Rattle.indexed.proofs.Chained.{chained}
use Rattle.indexed.proofs.Named.{named-entry}
use Rattle.explaining.proofs.Within.{stands_up}

-- a text that stands in s
word_stands : (d : ℕ) (s : List ℕ) (l : ℕ) (t : Node Ends) (w : Word Ends) → Stands (suc d) s l t → a_word t ≡ pass w → WordAt s (some w)
word_stands d s l t w x e =
    let z : length w.note.start ≡ l = ap (λ y. length y.start) (word-note t w e) ∙ sym x.left_is in
    let y : 0 < l = subst (λ (i : ℕ). 0 < i) (sym x.left_is) (some_left (suc d) (drop (length s - l) s) t x.rest x.reads) in
    lettered w refl d t (subst (λ (i : ℕ). Holds (suc d) s i (some t)) (sym z) (y, x)) e

-- an item of s, and what stands in it
module _ (d : ℕ) (m : List ℕ) (l : ℕ) (t : Node Ends) (x : Stands (suc d) m l t) where
  abbrev s : List ℕ
  s = drop (length m - l) m

  within : length m - l ≤ length m
  within = omega arith

  field_in : (name : Option (List ℕ)) (v : Node Ends) → Field t name v → Stands d m (length (note_of v).start) v
  field_in name v f =
      let c = chained d s t x.rest x.reads f.pairs f.is_map in
      stands_up d m (length m - l) (length (note_of v).start) v within (field-found-stands d s name f.pairs c.at c.within c.rest c.chain v f.value)

  entry_in : (j : ℕ) → EntryIs d s j (in_table j (a_mapping t))
  entry_in j t' q' h = let z : got t x.rest ≡ got t' q' = sym x.reads ∙ h in ap (λ u. in_table j (a_mapping u)) (alike z).value

  entry_at : (limit j : ℕ) (n : Named Ends) → Under limit t j n → EntryAt d s n (in_table j (a_mapping t))
  entry_at limit j n u = named-entry d s t x.rest x.reads limit u.every u.sound j n u.this (in_table j (a_mapping t)) (entry_in j)

  value_in : (limit j : ℕ) (n : Named Ends) → Under limit t j n → Stands d m (in_table j (a_mapping t)).value n.value
  value_in limit j n u = stands_up d m (length m - l) _ n.value within (entry_at limit j n u).value-stands

name_in : (d : ℕ) (m : List ℕ) (l : ℕ) (t : Node Ends) → Stands (suc (suc d)) m l t → (limit j : ℕ) (n : Named Ends) → Under limit t j n → WordAt m (some n.name)
name_in d m l t x limit j n u =
    let e = entry_at (suc d) m l t x limit j n u in
    word_stands d m _ e.key n.name (stands_up (suc d) m (length m - l) _ e.key (within (suc d) m l t x) e.key-stands) e.spells

-- in a manifest that is read as t
module _ (L : Layout) (m : List ℕ) (t : Node Ends) (q : List ℕ) (reads : Reads 32 m t q) where
  called-word : {o c : ℕ} {a b : Option (Word Ends)} → Called L t o c a b → WordAt m b
  called-word nobody = bare refl
  called-word (of_object f u) = bare refl
  called-word (of_component {os} {cs} {i} {j} {n} {c} f u g v) =
      let x = stands_at 32 m 0 (omega arith) t q reads in
      let y = field_in 31 m _ t x (objects_field L) os f in
      let z = value_in 30 m _ os y object_limit i n u in
      let w = field_in 29 m _ n.value z (components_field L) cs g in
      name_in 27 m _ cs w component_limit j c v

  pub component-word : (start n o c : ℕ) → Sided L → (refused : judge L start t ≡ refuse n o c) → WordAt m (manifest-refused L start t n o c refused).this.component_name
  component-word start n o c z refused =
      let r = manifest-refused L start t n o c refused in
      let w = r.why in
      called-word (truly-this w.before w.after r.this (subst (Truly (Said L start t)) w.split (truth-manifest L start t z)) w.earlier w.breaks).called
