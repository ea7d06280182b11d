-- Two models that stand in their files, are the same with annotations forgotten and have entries that are alike have rows that are alike.
use Prim.Native.Nat.{ℕ, zero, suc, ◌+◌, ◌≤◌}
use native.Mathlib.Omega.{arith}
use mathlib.Core.List.{List, [], ◌∷◌, ◌++◌, map, append_assoc}
use mathlib.Core.Bool.{Bool, true, false, cond}
use mathlib.Core.Option.{Option, none, some}
use mathlib.Core.Path.{◌≡◌, refl, ap, sym, subst, ◌∙◌}
use lib.Dec.{eqb}
use lib.ListN.{length, replicate, length-map}
use Rattle.meaning.specs.Tree.{Node, uint, nint, bytes, text, chunked_bytes, chunked_text, array, dict, tag, simple, float, Pair, Pairs, map_pairs, meaning, nothing}
use Rattle.meaning.specs.Check.{pass}
use Rattle.meaning.specs.Read.{Span}
use Rattle.meaning.specs.Kind.{Kind, null, another, kind, as_mapping, a_mapping}
use Rattle.meaning.specs.Model.{Word, Component, Object, Model}
use Rattle.meaning.specs.Layouts.{Layout}
use Rattle.meaning.specs.Judge.{letters_of}
use Rattle.meaning.specs.Notes.{map_option, map_word, map_component, map_object, map_model}
use Rattle.meaning.specs.Rows.{word_span, optional_span, attributes_span, dimensions, object_row, component_row, object_rows, rows_of, component_rows, rows, component_count}
use Rattle.meaning.proofs.Entries.{Along}
use Rattle.meaning.specs.Every.{Every, IfAny}
use Rattle.shown.specs.Accepted.{InManifest, WordStands, AttributesStand, ComponentAccepted, ObjectAccepted}
use Rattle.view.proofs.Columns.{shape, ending, nine, objects-at}
use Rattle.tolerance.specs.Alike.{Inside, TextAt, MapAt, TextsAlike, MapsAlike, EntriesAlike, FieldsAlike}
use Rattle.tolerance.specs.Alike.{Field, number, text_span, map_span, object_fields, component_fields, rows_then, table_fields}

-- ---------------------------------------------------------------- what stands at a span of an accepted file

-- what is judged to be a map is one
map_is : (t : Node Span) (ps : List (Pair Span)) → a_mapping t ≡ pass ps → (q : Pairs (Unit {0})) × (meaning t ≡ dict tt q)
unfolding a_mapping as_mapping kind
map_is (uint p n) ps e = absurd (let z : ◌≡◌ {A = ℕ} 0 1 = cc in omega arith)
map_is (nint p n) ps e = absurd (let z : ◌≡◌ {A = ℕ} 0 1 = cc in omega arith)
map_is (bytes p bs) ps e = absurd (let z : ◌≡◌ {A = ℕ} 0 1 = cc in omega arith)
map_is (text p bs) ps e = absurd (let z : ◌≡◌ {A = ℕ} 0 1 = cc in omega arith)
map_is (chunked_bytes p bs) ps e = absurd (let z : ◌≡◌ {A = ℕ} 0 1 = cc in omega arith)
map_is (chunked_text p bs) ps e = absurd (let z : ◌≡◌ {A = ℕ} 0 1 = cc in omega arith)
map_is (array p ns) ps e = absurd (let z : ◌≡◌ {A = ℕ} 0 1 = cc in omega arith)
map_is (dict p q) ps e = (map_pairs nothing q, refl)
map_is (tag p n t) ps e = absurd (let z : ◌≡◌ {A = ℕ} 0 1 = cc in omega arith)
map_is (simple p n) ps e = by (eqb n 22) e
  where
    by : (b : Bool) → as_mapping (cond {A = Kind Span} b null another) ≡ pass ps → (q : Pairs (Unit {0})) × (◌≡◌ {A = Node (Unit {0})} (simple tt n) (dict tt q))
    by true e = absurd (let z : ◌≡◌ {A = ℕ} 0 1 = cc in omega arith)
    by false e = absurd (let z : ◌≡◌ {A = ℕ} 0 1 = cc in omega arith)
map_is (float p w b) ps e = absurd (let z : ◌≡◌ {A = ℕ} 0 1 = cc in omega arith)

module _ (L : Layout) (file : List ℕ) (start : ℕ) (header : 8 ≤ start) where
  lies-inside : (s : Span) → InManifest L file start s → Inside file s
  lies-inside s h = record {
    there = let a = h.begins in omega (arith, a, header);
    ends = let a = h.ends in omega (arith, a);
  }

  word_at : (w : Word Span) → WordStands L file start w → TextAt file (word_span w) (some w.letters)
  word_at w h = record { inside = lies-inside (word_span w) h.lies; bytes = h.spelled }

  text_at : (o : Option (Word Span)) → IfAny (WordStands L file start) o → TextAt file (optional_span o) (letters_of o)
  unfolding optional_span letters_of
  text_at none h = record { no_place = refl; no_size = refl }
  text_at (some w) h = word_at w h

  pub map_at : (levels : ℕ) (o : Option (Node Span)) → IfAny (AttributesStand L file start levels) o → MapAt file levels (attributes_span o) (map_option meaning o)
  unfolding attributes_span
  map_at levels none h = record { no_place = refl; no_size = refl }
  map_at levels (some t) h =
      let m = map_is t h.pairs h.map in
      record { inside = lies-inside _ h.stands.lies; read = h.stands.read; pairs = m.0; is-map = m.1 }

-- ---------------------------------------------------------------- rows

module _ (L : Layout) (E : Node (Unit {0}) → Node (Unit {0}) → Type 0) (file₁ file₂ : List ℕ) where
  abbrev Alike : List Field → List ℕ → List ℕ → Type 0
  Alike = FieldsAlike file₁ file₂ E

  -- entries of two components, and of two objects' components
  abbrev pub Entry : Component Span → Component Span → Type 0
  Entry c₁ c₂ = EntriesAlike file₁ file₂ E 28 c₁.entry c₂.entry

  abbrev pub Entries : Object Span → Object Span → Type 0
  Entries o₁ o₂ = Along Entry o₁.components o₂.components

  -- the same numbers
  numbers-alike : (d : List ℕ) (n : ℕ) → length d ≡ n → (fs : List Field) (l k : List ℕ) → Alike fs l k → Alike (replicate n number ++ fs) (d ++ l) (d ++ k)
  numbers-alike [] zero e fs l k h = h
  numbers-alike [] (suc n) e fs l k h = absurd (omega (arith, e))
  numbers-alike (x ∷ d) zero e fs l k h = absurd (omega (arith, e))
  numbers-alike (x ∷ d) (suc n) e fs l k h = (refl, numbers-alike d n (omega (arith, e)) fs l k h)

  count_same : (cs₁ cs₂ : List (Component Span)) → map (map_component nothing) cs₁ ≡ map (map_component nothing) cs₂ → length cs₁ ≡ length cs₂
  count_same cs₁ cs₂ e = sym (length-map cs₁ (map_component nothing)) ∙ ap length e ∙ length-map cs₂ (map_component nothing)

  -- n rows and m more
  rows_more : (n m : ℕ) (row more : List Field) → rows_then (n + m) row more ≡ rows_then n row (rows_then m row more)
  rows_more zero m row more = let z : 0 + m ≡ m = omega arith in ap (λ (j : ℕ). rows_then j row more) z
  rows_more (suc n) m row more =
      (let z : suc n + m ≡ suc (n + m) = omega arith in ap (λ (j : ℕ). rows_then j row more) z) ∙ ap (λ (fs : List Field). row ++ fs) (rows_more n m row more)

  -- what precedes, joined otherwise
  joined-alike : (fs : List Field) (x₁ y₁ l x₂ y₂ k : List ℕ) → Alike fs (x₁ ++ (y₁ ++ l)) (x₂ ++ (y₂ ++ k)) → Alike fs ((x₁ ++ y₁) ++ l) ((x₂ ++ y₂) ++ k)
  joined-alike fs x₁ y₁ l x₂ y₂ k h = rw (append_assoc x₁ y₁ l, append_assoc x₂ y₂ k) h

  module _ (start : ℕ) (header : 8 ≤ start) where
    words-alike : (w₁ w₂ : Word Span) → WordStands L file₁ start w₁ → WordStands L file₂ start w₂ → w₁.letters ≡ w₂.letters → TextsAlike file₁ file₂ (word_span w₁) (word_span w₂)
    unfolding word_span
    words-alike w₁ w₂ h₁ h₂ e = record {
      size = ap length e;
      found = some w₁.letters;
      first = word_at L file₁ start header w₁ h₁;
      second = subst (λ (x : List ℕ). TextAt file₂ (word_span w₂) (some x)) (sym e) (word_at L file₂ start header w₂ h₂);
    }

    texts-alike : (o₁ o₂ : Option (Word Span)) → IfAny (WordStands L file₁ start) o₁ → IfAny (WordStands L file₂ start) o₂
        → map_option (map_word nothing) o₁ ≡ map_option (map_word nothing) o₂ → TextsAlike file₁ file₂ (optional_span o₁) (optional_span o₂)
    unfolding optional_span letters_of
    texts-alike none none h₁ h₂ e = record { size = refl; found = none; first = text_at L file₁ start header none tt; second = text_at L file₂ start header none tt }
    texts-alike none (some w₂) h₁ h₂ e = absurd (let z : ◌≡◌ {A = ℕ} 0 1 = cc in omega arith)
    texts-alike (some w₁) none h₁ h₂ e = absurd (let z : ◌≡◌ {A = ℕ} 0 1 = cc in omega arith)
    texts-alike (some w₁) (some w₂) h₁ h₂ e = let z : map_word nothing w₁ ≡ map_word nothing w₂ = cc in words-alike w₁ w₂ h₁ h₂ (ap (λ (w : Word (Unit {0})). w.letters) z)

    pub maps-alike : (levels : ℕ) (o₁ o₂ : Option (Node Span)) → IfAny (AttributesStand L file₁ start levels) o₁ → IfAny (AttributesStand L file₂ start levels) o₂
        → map_option meaning o₁ ≡ map_option meaning o₂ → MapsAlike file₁ file₂ levels (attributes_span o₁) (attributes_span o₂)
    maps-alike levels o₁ o₂ h₁ h₂ e = record {
      found = map_option meaning o₁;
      first = map_at L file₁ start header levels o₁ h₁;
      second = subst (λ (x : Option (Node (Unit {0}))). MapAt file₂ levels (attributes_span o₂) x) (sym e) (map_at L file₂ start header levels o₂ h₂);
    }

    component-alike : (i : ℕ) (c₁ c₂ : Component Span) → ComponentAccepted L file₁ start c₁ → ComponentAccepted L file₂ start c₂ → map_component nothing c₁ ≡ map_component nothing c₂
        → Entry c₁ c₂ → (fs : List Field) (l k : List ℕ) → Alike fs l k → Alike (component_fields ++ fs) (component_row i c₁ ++ l) (component_row i c₂ ++ k)
    unfolding component_row
    component-alike i c₁ c₂ h₁ h₂ e entries fs l k more = (
      words-alike c₁.name c₂.name h₁.name h₂.name (ap (λ (c : Component (Unit {0})). c.name.letters) e),
      (
        ap (λ (c : Component (Unit {0})). c.dtype) e,
        (
          texts-alike c₁.type c₂.type h₁.type h₂.type (ap (λ (c : Component (Unit {0})). c.type) e),
          (
            ap (λ (c : Component (Unit {0})). c.offset) e,
            (
              ap (λ (c : Component (Unit {0})). c.length) e,
              (
                texts-alike c₁.digest c₂.digest h₁.digest h₂.digest (ap (λ (c : Component (Unit {0})). c.digest) e),
                (refl, (entries, more)),
              ),
            ),
          ),
        ),
      ),
    )

    object-alike : (o₁ o₂ : Object Span) → ObjectAccepted L file₁ start o₁ → ObjectAccepted L file₂ start o₂ → map_object nothing o₁ ≡ map_object nothing o₂
        → (fs : List Field) (l k : List ℕ) → Alike fs l k → Alike (object_fields ++ fs) (object_row o₁ ++ l) (object_row o₂ ++ k)
    unfolding object_row shape ending
    object-alike o₁ o₂ h₁ h₂ e fs l k more =
        let alike : List ℕ → List ℕ → Type 0 = λ x y. Alike (replicate 9 number ++ text_span ∷ map_span ∷ number ∷ fs) x y in
        let shapes : shape o₁ ≡ shape o₂ = ap (λ (o : Object (Unit {0})). length o.shape ∷ dimensions o.shape) e in
        let last : Alike (text_span ∷ map_span ∷ number ∷ fs) (ending o₁ ++ l) (ending o₂ ++ k) = (
          words-alike o₁.format o₂.format h₁.format h₂.format (ap (λ (o : Object (Unit {0})). o.format.letters) e),
          (
            maps-alike 29 o₁.attributes o₂.attributes h₁.attributes h₂.attributes (ap (λ (o : Object (Unit {0})). o.attributes) e),
            (count_same o₁.components o₂.components (ap (λ (o : Object (Unit {0})). o.components) e), more),
          ),
        ) in
        let same : alike (shape o₁ ++ (ending o₁ ++ l)) (shape o₁ ++ (ending o₂ ++ k)) =
        numbers-alike (shape o₁) 9 (nine o₁) (text_span ∷ map_span ∷ number ∷ fs) (ending o₁ ++ l) (ending o₂ ++ k) last in
        let own : alike (shape o₁ ++ (ending o₁ ++ l)) (shape o₂ ++ (ending o₂ ++ k)) =
        subst (λ (x : List ℕ). alike (shape o₁ ++ (ending o₁ ++ l)) (x ++ (ending o₂ ++ k))) shapes same in (
          words-alike o₁.name o₂.name h₁.name h₂.name (ap (λ (o : Object (Unit {0})). o.name.letters) e),
          joined-alike (replicate 9 number ++ text_span ∷ map_span ∷ number ∷ fs) (shape o₁) (ending o₁) l (shape o₂) (ending o₂) k own,
        )

    rows_alike : (i : ℕ) (cs₁ cs₂ : List (Component Span)) → Every (ComponentAccepted L file₁ start) cs₁ → Every (ComponentAccepted L file₂ start) cs₂
        → map (map_component nothing) cs₁ ≡ map (map_component nothing) cs₂ → Along Entry cs₁ cs₂
        → (fs : List Field) (l k : List ℕ) → Alike fs l k → Alike (rows_then (length cs₁) component_fields fs) (rows_of i cs₁ ++ l) (rows_of i cs₂ ++ k)
    unfolding rows_of
    rows_alike i [] [] h₁ h₂ e es fs l k more = more
    rows_alike i [] (c₂ ∷ cs₂) h₁ h₂ e es fs l k more = absurd (let z : ◌≡◌ {A = ℕ} 0 1 = cc in omega arith)
    rows_alike i (c₁ ∷ cs₁) [] h₁ h₂ e es fs l k more = absurd (let z : ◌≡◌ {A = ℕ} 0 1 = cc in omega arith)
    rows_alike i (c₁ ∷ cs₁) (c₂ ∷ cs₂) h₁ h₂ e es fs l k more =
        let first : map_component nothing c₁ ≡ map_component nothing c₂ = cc in
        let others : map (map_component nothing) cs₁ ≡ map (map_component nothing) cs₂ = cc in
        let done : Alike (component_fields ++ rows_then (length cs₁) component_fields fs) (component_row i c₁ ++ (rows_of i cs₁ ++ l)) (component_row i c₂ ++ (rows_of i cs₂ ++ k)) =
        component-alike i c₁ c₂ h₁.0 h₂.0 first es.0 (rows_then (length cs₁) component_fields fs) (rows_of i cs₁ ++ l) (rows_of i cs₂ ++ k)
        (rows_alike i cs₁ cs₂ h₁.1 h₂.1 others es.1 fs l k more) in
        joined-alike (component_fields ++ rows_then (length cs₁) component_fields fs) (component_row i c₁) (rows_of i cs₁) l (component_row i c₂) (rows_of i cs₂) k done

    objects-alike : (os₁ os₂ : List (Object Span)) → Every (ObjectAccepted L file₁ start) os₁ → Every (ObjectAccepted L file₂ start) os₂
        → map (map_object nothing) os₁ ≡ map (map_object nothing) os₂
        → (fs : List Field) (l k : List ℕ) → Alike fs l k → Alike (rows_then (length os₁) object_fields fs) (object_rows os₁ ++ l) (object_rows os₂ ++ k)
    unfolding object_rows
    objects-alike [] [] h₁ h₂ e fs l k more = more
    objects-alike [] (o₂ ∷ os₂) h₁ h₂ e fs l k more = absurd (let z : ◌≡◌ {A = ℕ} 0 1 = cc in omega arith)
    objects-alike (o₁ ∷ os₁) [] h₁ h₂ e fs l k more = absurd (let z : ◌≡◌ {A = ℕ} 0 1 = cc in omega arith)
    objects-alike (o₁ ∷ os₁) (o₂ ∷ os₂) h₁ h₂ e fs l k more =
        let first : map_object nothing o₁ ≡ map_object nothing o₂ = cc in
        let others : map (map_object nothing) os₁ ≡ map (map_object nothing) os₂ = cc in
        let done : Alike (object_fields ++ rows_then (length os₁) object_fields fs) (object_row o₁ ++ (object_rows os₁ ++ l)) (object_row o₂ ++ (object_rows os₂ ++ k)) =
        object-alike o₁ o₂ h₁.0 h₂.0 first (rows_then (length os₁) object_fields fs) (object_rows os₁ ++ l) (object_rows os₂ ++ k)
        (objects-alike os₁ os₂ h₁.1 h₂.1 others fs l k more) in
        joined-alike (object_fields ++ rows_then (length os₁) object_fields fs) (object_row o₁) (object_rows os₁) l (object_row o₂) (object_rows os₂) k done

    components-alike : (i : ℕ) (os₁ os₂ : List (Object Span)) → Every (ObjectAccepted L file₁ start) os₁ → Every (ObjectAccepted L file₂ start) os₂
        → map (map_object nothing) os₁ ≡ map (map_object nothing) os₂ → Along Entries os₁ os₂
        → (fs : List Field) (l k : List ℕ) → Alike fs l k → Alike (rows_then (component_count os₁) component_fields fs) (component_rows i os₁ ++ l) (component_rows i os₂ ++ k)
    unfolding component_rows component_count
    components-alike i [] [] h₁ h₂ e es fs l k more = more
    components-alike i [] (o₂ ∷ os₂) h₁ h₂ e es fs l k more = absurd (let z : ◌≡◌ {A = ℕ} 0 1 = cc in omega arith)
    components-alike i (o₁ ∷ os₁) [] h₁ h₂ e es fs l k more = absurd (let z : ◌≡◌ {A = ℕ} 0 1 = cc in omega arith)
    components-alike i (o₁ ∷ os₁) (o₂ ∷ os₂) h₁ h₂ e es fs l k more =
        let first : map_object nothing o₁ ≡ map_object nothing o₂ = cc in
        let others : map (map_object nothing) os₁ ≡ map (map_object nothing) os₂ = cc in
        let n : ℕ = length o₁.components in
        let m : ℕ = component_count os₁ in
        let own₁ : List ℕ = rows_of i o₁.components in
        let own₂ : List ℕ = rows_of i o₂.components in
        let more₁ : List ℕ = component_rows (suc i) os₁ in
        let more₂ : List ℕ = component_rows (suc i) os₂ in
        let done : Alike (rows_then n component_fields (rows_then m component_fields fs)) (own₁ ++ (more₁ ++ l)) (own₂ ++ (more₂ ++ k)) =
        rows_alike i o₁.components o₂.components h₁.0.components h₂.0.components (ap (λ (o : Object (Unit {0})). o.components) first) es.0
        (rows_then m component_fields fs) (more₁ ++ l) (more₂ ++ k) (components-alike (suc i) os₁ os₂ h₁.1 h₂.1 others es.1 fs l k more) in
        rw (rows_more n m component_fields fs) (joined-alike (rows_then n component_fields (rows_then m component_fields fs)) own₁ more₁ l own₂ more₂ k done)

    pub table-alike : (m₁ m₂ : Model Span) → Every (ObjectAccepted L file₁ start) m₁.objects → Every (ObjectAccepted L file₂ start) m₂.objects
        → map_model nothing m₁ ≡ map_model nothing m₂ → Along Entries m₁.objects m₂.objects
        → (l k : List ℕ) → Alike (table_fields (length m₁.objects) (component_count m₁.objects)) (rows m₁ ++ l) (rows m₂ ++ k)
    table-alike m₁ m₂ h₁ h₂ e es l k =
        let os : map (map_object nothing) m₁.objects ≡ map (map_object nothing) m₂.objects = ap (λ (m : Model (Unit {0})). m.objects) e in
        rw (objects-at m₁ l, objects-at m₂ k)
        (objects-alike m₁.objects m₂.objects h₁ h₂ os
        (rows_then (component_count m₁.objects) component_fields []) (component_rows 0 m₁.objects ++ l) (component_rows 0 m₂.objects ++ k)
        (components-alike 0 m₁.objects m₂.objects h₁ h₂ os es [] l k tt))
