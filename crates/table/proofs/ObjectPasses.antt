-- An object that passes, in any layout: its fields, where they come from, and where they stand.
use Prim.Native.Nat.{ℕ, ◌<◌}
use native.Mathlib.Omega.{arith}
use mathlib.Core.List.{List, map}
use mathlib.Core.Bool.{true}
use mathlib.Core.Option.{Option, none, some}
use mathlib.Core.Path.{◌≡◌, refl, ap, sym, ◌∙◌, subst}
use lib.ListN.{length, get_or, replicate}
use lib.Dec.{leb}
use Rattle.meaning.specs.Tree.{Node, Pair, note_of}
use Rattle.meaning.specs.Check.{Check, pass, ◌>>=◌, ◌>>◌, ◌unless◌, required, required_in, optional}
use Rattle.meaning.specs.Text.{all}
use Rattle.meaning.specs.Refusal.{KEY, TWICE}
use Rattle.meaning.specs.Model.{Word, Object, ObjectFields}
use Rattle.meaning.specs.Kind as kinds
use Rattle.meaning.specs.Kind.{kind}
use Rattle.meaning.specs.Layouts.{Slots, slot, somes, Layout, dtype_at}
use Rattle.meaning.specs.Field.{object_fields, fields, field, count, is_some, key_of}
use Rattle.meaning.specs.Format.{format_rules}
use Rattle.meaning.specs.Judge.{inherited, a_dtype, object, shape_of, attributes_of, components_of, part}
use Rattle.meaning.proofs.Checks.{pass_same, required-some, passed_on, passed}
use Rattle.meaning.proofs.KindIs.{attributes-stay}
use Rattle.walk.specs.Reading.{Ends, Chain, foldl}
use Rattle.fields.specs.Slots.{marks, Stands, Holds}
use Rattle.fields.proofs.Stands.{field-stands}
use Rattle.table.specs.WordAt.{lettered}
use Rattle.table.proofs.Lettered.{word-note, text-word}
use Rattle.table.specs.Object.{Described}
use Rattle.table.specs.Late.{Gives}

-- ---------------------------------------------------------------- its fields

-- a field that is needed where the layout has it
record AskedFor {A : Type 0} (name : Option (List ℕ)) (o a : Option A) : Type 0 where
  same : o ≡ a
  there : is_some name ≡ true → a ≡ none → ⊥

asked-for : {A : Type 0} (name : Option (List ℕ)) (o a : Option A) → required_in name o ≡ pass a → AskedFor name o a
unfolding is_some
asked-for none o a e = record { same = pass_same e; there = λ h. absurd (let z : ◌≡◌ {A = ℕ} 0 1 = cc in omega arith) }
asked-for (some n) o a e =
    let x = passed (required o) (λ a. pass (some a)) a e in
    let y : some x.value ≡ a = pass_same x.then in
    record { same = required-some o x.value x.is ∙ y; there = λ h n. absurd (let z : some x.value ≡ none = y ∙ n in let w : ◌≡◌ {A = ℕ} 0 1 = cc in omega arith) }

-- what a check of an option passes is there if the option is
some-passed : {A : Type 0} (F : A → Check ℕ) (o : Option A) (code : Option ℕ) → optional F o ≡ pass code → (o ≡ none → ⊥) → code ≡ none → ⊥
some-passed F none code e there n = there refl
some-passed F (some a) code e there n =
    let x = passed (F a) (λ b. pass (some b)) code e in
    let y : some x.value ≡ none = pass_same x.then ∙ n in let w : ◌≡◌ {A = ℕ} 0 1 = cc in omega arith

a-table : (t : Node Ends) (ps : List (Pair Ends)) → kind t ≡ kinds.mapping ps → kinds.a_mapping t ≡ pass ps
unfolding kinds.a_mapping kinds.as_mapping
a-table t ps e = rw e refl

-- the fields of these pairs
abbrev pub fields_of : Slots → List (Pair Ends) → ObjectFields Ends
fields_of slots ps = record {
  dtype = field (slot 0 slots) ps;
  shape = field (slot 1 slots) ps;
  format = field (slot 2 slots) ps;
  attributes = field (slot 3 slots) ps;
  components = field (slot 4 slots) ps;
}

module _ (slots : Slots) (t : Node Ends) (ps : List (Pair Ends)) (is : kind t ≡ kinds.mapping ps) where
  fields-are : (qs : List (Pair Ends)) → fields slots t ≡ pass qs → ps ≡ qs
  unfolding fields
  fields-are qs e =
      let a = passed (kinds.a_mapping t) (λ ps. (KEY unless all (λ p. is_some (key_of p)) ps) >> ((TWICE unless all (λ n. leb (count n ps) 1) (somes slots)) >> pass ps)) qs e in
      let b = passed_on (KEY unless all (λ p. is_some (key_of p)) a.value) ((TWICE unless all (λ n. leb (count n a.value) 1) (somes slots)) >> pass a.value) qs a.then in
      let c = passed_on (TWICE unless all (λ n. leb (count n a.value) 1) (somes slots)) (pass a.value) qs b in
      pass_same (sym (a-table t ps is) ∙ a.is) ∙ pass_same c

  object-fields : (f : ObjectFields Ends) → object_fields slots t ≡ pass f → fields_of slots ps ≡ f
  unfolding object_fields
  object-fields f e =
      let a = passed (fields slots t) (λ ps. pass (fields_of slots ps)) f e in
      ap (fields_of slots) (fields-are a.value a.is) ∙ pass_same a.then

-- what an object of these fields holds
pub record Made (L : Layout) (start : ℕ) (w : Word Ends) (c : ObjectFields Ends) (o : Object Ends) : Type 0 where
  pub named : w ≡ o.name
  pub code : Option ℕ
  pub code_is : optional (a_dtype L) c.dtype ≡ pass code
  -- a dtype is there where the layout has it on the object
  pub dtype-there : is_some (slot dtype_at L.object) ≡ true → c.dtype ≡ none → ⊥
  pub shape : Node Ends
  pub shape-got : c.shape ≡ some shape
  pub shape_is : shape_of shape ≡ pass o.shape
  pub format : Node Ends
  pub format-got : c.format ≡ some format
  pub format-is : kinds.a_text format ≡ pass o.format
  pub attributes-got : c.attributes ≡ o.attributes
  pub components : Node Ends
  pub components-got : c.components ≡ some components
  pub components-are : components_of L start (inherited o.format.letters code) components ≡ pass o.components

-- what is asked of an object's fields, once they are found
abbrev asked : Layout → ℕ → Word Ends → ObjectFields Ends → Check (Object Ends)
asked L start w c = do
  dtype ← required_in (slot dtype_at L.object) c.dtype
  shape ← required c.shape
  format ← required c.format
  components ← required c.components
  d ← optional (a_dtype L) dtype
  s ← shape_of shape
  f ← kinds.a_text format
  a ← optional attributes_of c.attributes
  cs ← components_of L start (inherited f.letters d) components
  format_rules f.letters s (map part cs)
  pass (record { name = w; shape = s; format = f; attributes = a; components = cs })

made_of : (L : Layout) (start : ℕ) (w : Word Ends) (c : ObjectFields Ends) (o : Object Ends) → asked L start w c ≡ pass o → Made L start w c o
made_of L start w c o e =
    let t = passed (required_in (slot dtype_at L.object) c.dtype) _ o e in
    let u = asked-for (slot dtype_at L.object) c.dtype t.value t.is in
    let b = passed (required c.shape) _ o t.then in
    let f = passed (required c.format) _ o b.then in
    let d = passed (required c.components) _ o f.then in
    let y = passed (optional (a_dtype L) t.value) _ o d.then in
    let g = passed (shape_of b.value) _ o y.then in
    let h = passed (kinds.a_text f.value) _ o g.then in
    let i = passed (optional attributes_of c.attributes) _ o h.then in
    let j = passed (components_of L start (inherited h.value.letters y.value) d.value) _ o i.then in
    let x = pass_same (passed_on (format_rules h.value.letters g.value (map part j.value)) _ o j.then) in
    let letters : h.value.letters ≡ o.format.letters = ap (λ (o : Object Ends). o.format.letters) x in
    record {
      named = ap (λ (o : Object Ends). o.name) x;
      code = y.value;
      code_is = ap (optional (a_dtype L)) u.same ∙ y.is;
      dtype-there = λ has n. u.there has (sym u.same ∙ n);
      shape = b.value;
      shape-got = required-some c.shape b.value b.is;
      shape_is = g.is ∙ ap (λ (o : Object Ends). pass o.shape) x;
      format = f.value;
      format-got = required-some c.format f.value f.is;
      format-is = h.is ∙ ap (λ (o : Object Ends). pass o.format) x;
      attributes-got = sym (attributes-stay c.attributes i.value i.is) ∙ ap (λ (o : Object Ends). o.attributes) x;
      components = d.value;
      components-got = required-some c.components d.value d.is;
      components-are =
          ap (λ l. components_of L start (inherited l y.value) d.value) (sym letters) ∙ j.is ∙ ap (λ (o : Object Ends). pass o.components) x;
    }

pub made : (L : Layout) (start : ℕ) (w : Word Ends) (t : Node Ends) (ps : List (Pair Ends)) → kind t ≡ kinds.mapping ps → (o : Object Ends) → object L start (record { name = w; value = t }) ≡ pass o
    → Made L start w (fields_of L.object ps) o
unfolding object
made L start w t ps is o e =
    let a = passed (object_fields L.object t) (asked L start w) o e in
    subst (λ c. Made L start w c o) (sym (object-fields L.object t ps is a.value a.is)) (made_of L start w a.value o a.then)

-- ---------------------------------------------------------------- where they stand

module _ (L : Layout) (m : List ℕ) (ps : List (Pair Ends)) (q : List ℕ) (chain : Chain 29 m ps q) (p : List ℕ) (is : p ≡ foldl (marks L.object) (replicate 8 0) ps) where
  at_place : (i : ℕ) → i < 5 → Holds 29 m (get_or p i 0) (field (slot i L.object) ps)
  at_place i l = field-stands L.object 5 L.object_places 29 m ps q chain p is L.object_apart i l

  module _ (start : ℕ) (w : Word Ends) (o : Object Ends) (f : Made L start w (fields_of L.object ps) o) where
    format-held : Holds 29 m (get_or p 2 0) (some f.format)
    format-held = subst (Holds 29 m (get_or p 2 0)) f.format-got (at_place 2 (omega arith))

    pub shape-stands : Stands 29 m (get_or p 1 0) f.shape
    shape-stands = (subst (Holds 29 m (get_or p 1 0)) f.shape-got (at_place 1 (omega arith))).1

    pub described : Described m p o
    described =
        let word : kinds.a_word f.format ≡ pass o.format = text-word f.format o.format f.format-is in
        let n : note_of f.format ≡ o.format.note = sym (word-note f.format o.format word) in
        let l : get_or p 2 0 ≡ length o.format.note.start = format-held.1.left_is ∙ ap (λ (e : Ends). length e.start) n in
        record {
          format-at = lettered o.format refl 28 f.format (subst (λ (i : ℕ). Holds 29 m i (some f.format)) l format-held) word;
          format-left = sym l;
          attributes-held = subst (Holds 29 m (get_or p 3 0)) f.attributes-got (at_place 3 (omega arith));
        }

    -- a tensor gives its dtype to its components
    pub gives : is_some (slot dtype_at L.object) ≡ true → Gives L start m p o
    gives has =
        let k : Holds 29 m (get_or p 4 0) (some f.components) = subst (Holds 29 m (get_or p 4 0)) f.components-got (at_place 4 (omega arith)) in
        record {
          dtype = field (slot 0 L.object) ps;
          dtype-held = at_place 0 (omega arith);
          code = f.code;
          code_is = f.code_is;
          some-code = some-passed (a_dtype L) (field (slot 0 L.object) ps) f.code f.code_is (f.dtype-there has);
          format = f.format;
          format-stands = format-held.1;
          format-is = f.format-is;
          attributes = field (slot 3 L.object) ps;
          attributes-held = at_place 3 (omega arith);
          components = f.components;
          components-stand = k.1;
          components-are = f.components-are;
        }
