-- The values of a manifest's `components` maps, object by object: what the components of its judgement are read from, whatever the annotations; and that dropping the manifest's
-- unknown fields drops theirs.
use Prim.Native.Nat.{ℕ, suc, ◌+◌, ◌%◌}
use mathlib.Core.List.{List, [], ◌∷◌, map}
use mathlib.Core.Bool.{true, ◌&&◌}
use mathlib.Core.Option.{Option, none, some}
use mathlib.Core.Path.{◌≡◌, refl, ap, ap₂, sym, ◌∙◌, subst}
use lib.Dec.{eqb, leb}
use lib.ListN.{length}
use native.Mathlib.Omega.{arith}
use Rattle.meaning.specs.Tree.{Node, Pair, note_of, map_p}
use Rattle.meaning.specs.Check.{Check, pass, refuse, ◌>>=◌, ◌>>◌, ◌unless◌, in_object, in_component, required, required_in, optional, each}
use Rattle.meaning.specs.Text.{ascii, all, distinct, filter, utf8}
use Rattle.meaning.specs.Refusal.{KEY, TEXT, TWICE, COUNT, ALIGN, BOUNDS}
use Rattle.meaning.specs.Limit.{object_limit, component_limit, alignment}
use Rattle.meaning.specs.Model.{Named, Component, Object, Model}
use Rattle.meaning.specs.Kind.{Kind, number, words, list, mapping, null, another, kind, a_number, a_mapping, a_text, present}
use Rattle.meaning.specs.Layouts.{Slots, slot, somes, Layout, version_at, objects_at, dtype_at, components_at}
use Rattle.meaning.specs.Field.{is_some, key_of, count, field, fields, root_fields, object_fields, component_fields, name_kind, name_of, names}
use Rattle.meaning.specs.Judge.{or_else, inherited, a_dtype, a_type, raw, attributes_of, component, part, shape_of, components_of, object, a_version, objects_of, judge}
use Rattle.meaning.specs.Format.{format_rules}
use Rattle.meaning.specs.Notes.{map_check, map_option, map_pair}
use Rattle.meaning.specs.Drop.{plain_version, known, holds, in_map, in_text, on_value, on_field, drop_component, drop_object, drop_root}
use Rattle.meaning.proofs.JudgeNatural.{a_table-map, field-map, map-map}
use Rattle.meaning.proofs.DropFields.{a_table-in_map, field-known, field-changed, value_same, value-apart, key-same}
use Rattle.meaning.proofs.Checks.{required-some}

-- ---------------------------------------------------------------- the entries of a manifest

module _ {P : Type 0} where
  unfoldable pub pairs_or : Check (List (Pair P)) → List (Pair P)
  pairs_or (pass ps) = ps
  pairs_or (refuse n o c) = []

  -- the pairs of a map, and of anything else none
  unfoldable pub pairs_in : Node P → List (Pair P)
  pairs_in t = pairs_or (a_mapping t)

  unfoldable pub values_in : Option (Node P) → List (Node P)
  values_in none = []
  values_in (some t) = map (λ p. p.value) (pairs_in t)

  -- of an object's map
  unfoldable pub entries_in : Layout → Node P → List (Node P)
  entries_in L t = values_in (field (slot components_at L.object) (pairs_in t))

  -- of the root
  unfoldable pub entries_of : Layout → Node P → List (List (Node P))
  entries_of L t = map (entries_in L) (values_in (field (slot objects_at L.root) (pairs_in t)))

-- two ways round a square
around : {A B C D : Type 0} (u : A → B) (h : B → D) (g : A → C) (v : C → D) → ((a : A) → h (u a) ≡ v (g a)) → (l : List A) → map h (map u l) ≡ map v (map g l)
around u h g v e [] = refl
around {D} u h g v e (a ∷ l) = ap₂ {C = List D} (λ x y. x ∷ y) (e a) (around u h g v e l)

-- ---------------------------------------------------------------- with other annotations

module _ {P Q : Type 0} (f : P → Q) where
  pairs_in-map : (t : Node P) → pairs_in (map_p f t) ≡ map (map_pair f) (pairs_in t)
  unfolding pairs_in pairs_or
  pairs_in-map t = ap pairs_or (a_table-map f t) ∙ by (a_mapping t)
    where
      by : (k : Check (List (Pair P))) → pairs_or (map_check (map (map_pair f)) k) ≡ map (map_pair f) (pairs_or k)
      by (pass ps) = refl
      by (refuse n o c) = refl

  values_in-map : (o : Option (Node P)) → values_in (map_option (map_p f) o) ≡ map (map_p f) (values_in o)
  unfolding values_in
  values_in-map none = refl
  values_in-map (some t) = ap (map (λ p. p.value)) (pairs_in-map t) ∙ around (map_pair f) (λ p. p.value) (λ p. p.value) (map_p f) (λ p. refl) (pairs_in t)

  values-map : (s : Option (List ℕ)) (t : Node P) → values_in (field s (pairs_in (map_p f t))) ≡ map (map_p f) (values_in (field s (pairs_in t)))
  values-map s t = ap (λ ps. values_in (field s ps)) (pairs_in-map t) ∙ ap values_in (field-map f s (pairs_in t)) ∙ values_in-map (field s (pairs_in t))

  entries_in-map : (L : Layout) (t : Node P) → entries_in L (map_p f t) ≡ map (map_p f) (entries_in L t)
  unfolding entries_in
  entries_in-map L t = values-map (slot components_at L.object) t

  pub entries_of-map : (L : Layout) (t : Node P) → entries_of L (map_p f t) ≡ map (map (map_p f)) (entries_of L t)
  unfolding entries_of
  entries_of-map L t =
      let s : Option (List ℕ) = slot objects_at L.root in
      ap (map (entries_in L)) (values-map s t) ∙ around (map_p f) (entries_in L) (entries_in L) (map (map_p f)) (entries_in-map L) (values_in (field s (pairs_in t)))

-- ---------------------------------------------------------------- with unknown fields dropped

module _ {P : Type 0} where
  pairs_in-in_map : (g : List (Pair P) → List (Pair P)) → g [] ≡ [] → (t : Node P) → pairs_in (in_map g t) ≡ g (pairs_in t)
  unfolding pairs_in pairs_or
  pairs_in-in_map g e t = ap pairs_or (a_table-in_map g t) ∙ by (a_mapping t)
    where
      by : (k : Check (List (Pair P))) → pairs_or (map_check g k) ≡ g (pairs_or k)
      by (pass ps) = refl
      by (refuse n o c) = sym e

  values_in-on : (g : Node P → Node P) (o : Option (Node P)) → values_in (map_option (in_map (map (on_value g))) o) ≡ map g (values_in o)
  unfolding values_in on_value
  values_in-on g none = refl
  values_in-on g (some t) =
      ap (map (λ p. p.value)) (pairs_in-in_map (map (on_value g)) refl t) ∙ around (on_value g) (λ p. p.value) (λ p. p.value) g (λ p. refl) (pairs_in t)

  module _ (L : Layout) where
    entries_in-drop : (t : Node P) → entries_in L (drop_object L t) ≡ map (drop_component L) (entries_in L t)
    unfolding entries_in drop_object
    entries_in-drop t =
        let within : Node P → Node P = in_map (map (on_value (drop_component L))) in
        let s : Option (List ℕ) = slot components_at L.object in
        let kept : List (Pair P) = filter (known L.object) (pairs_in t) in
        ap (λ ps. values_in (field s ps)) (pairs_in-in_map (λ ps. map (on_field s within) (filter (known L.object) ps)) refl t)
        ∙ ap values_in (field-changed s (on_field s within) within (key-same s within) (value_same s within) kept ∙ ap (map_option within) (field-known L.object components_at (pairs_in t)))
        ∙ values_in-on (drop_component L) (field s (pairs_in t))

    pub entries_of-drop : (t : Node P) → entries_of L (drop_root L t) ≡ map (map (drop_component L)) (entries_of L t)
    unfolding entries_of drop_root
    entries_of-drop t =
        let within : Node P → Node P = in_map (map (on_value (drop_object L))) in
        let s : Option (List ℕ) = slot objects_at L.root in
        let v : Option (List ℕ) = slot version_at L.root in
        let u : Pair P → Pair P = λ p. on_field v (in_text plain_version) (on_field s within p) in
        let kept : List (Pair P) = filter (known L.root) (pairs_in t) in
        let keys : (p : Pair P) → (u p).key ≡ p.key = λ p. key-same v (in_text plain_version) (on_field s within p) ∙ key-same s within p in
        let values : (p : Pair P) → holds s p ≡ true → (u p).value ≡ within p.value =
        λ p h. value-apart L.root L.root_apart objects_at version_at (λ e. omega arith) (in_text plain_version) p (on_field s within p) (sym (key-same s within p)) h ∙ value_same s within p h in
        ap (λ ps. map (entries_in L) (values_in (field s ps))) (pairs_in-in_map (λ ps. map u (filter (known L.root) ps)) refl t)
        ∙ ap (λ o. map (entries_in L) (values_in o)) (field-changed s u within keys values kept ∙ ap (map_option within) (field-known L.root objects_at (pairs_in t)))
        ∙ ap (map (entries_in L)) (values_in-on (drop_object L) (field s (pairs_in t)))
        ∙ around (drop_object L) (entries_in L) (entries_in L) (map (drop_component L)) entries_in-drop (values_in (field s (pairs_in t)))

-- ---------------------------------------------------------------- of what is judged

-- a check whose value, if it passes, is so
module _ {A : Type 0} where
  abbrev Cases : (A → Type 0) → Check A → Type 0
  Cases Q (pass a) = Q a
  Cases Q (refuse n o c) = Unit {0}

  record Gives (Q : A → Type 0) (k : Check A) : Type 0 where
    is : Cases Q k

  given : {Q : A → Type 0} {k : Check A} {a : A} → Gives Q k → k ≡ pass a → Q a
  given {Q} h e = (subst (Gives Q) e h).is

  passes : {Q : A → Type 0} (a : A) → Q a → Gives Q (pass a)
  passes a q = record { is = q }

  in-component : {Q : A → Type 0} (j : ℕ) (k : Check A) → Gives Q k → Gives Q (in_component j k)
  in-component j (pass a) h = record { is = h.is }
  in-component j (refuse n o c) h = record { is = tt }

  in-object : {Q : A → Type 0} (j : ℕ) (k : Check A) → Gives Q k → Gives Q (in_object j k)
  in-object j (pass a) h = record { is = h.is }
  in-object j (refuse n o c) h = record { is = tt }

module _ {A B : Type 0} {R : B → Type 0} where
  bind : (m : Check A) (k : A → Check B) → ((a : A) → m ≡ pass a → Gives R (k a)) → Gives R (m >>= k)
  bind (pass a) k f = f a refl
  bind (refuse n o c) k f = record { is = tt }

  then : (m : Check A) (k : Check B) → Gives R k → Gives R (m >> k)
  then (pass a) k h = h
  then (refuse n o c) k h = record { is = tt }

-- two lists, one beside the other
module _ {A B : Type 0} where
  abbrev pub Along : (A → B → Type 0) → List A → List B → Type 0
  Along R [] [] = Unit {0}
  Along R [] (b ∷ bs) = ⊥
  Along R (a ∷ as') [] = ⊥
  Along R (a ∷ as') (b ∷ bs) = R a b × Along R as' bs

-- each of a list, with what it stands for
each-along : {A B C : Type 0} {R : B → C → Type 0} (f : ℕ → A → Check B) (h : A → C) → ((i : ℕ) (a : A) → Gives (λ b. R b (h a)) (f i a))
    → (i : ℕ) (l : List A) → Gives (λ bs. Along R bs (map h l)) (each f i l)
each-along f h g i [] = passes [] tt
each-along f h g i (a ∷ l) =
    bind (f i a) _ λ b e. bind (each f (suc i) l) _ λ bs e'. passes (b ∷ bs) (given (g i a) e, given (each-along f h g (suc i) l) e')

each_same : {A B C : Type 0} (f : ℕ → A → Check B) (h : A → C) (g : B → C) → ((i : ℕ) (a : A) → Gives (λ b. g b ≡ h a) (f i a)) → (i : ℕ) (l : List A) → Gives (λ bs. map g bs ≡ map h l) (each f i l)
each_same f h g s i [] = passes [] refl
each_same {C} f h g s i (a ∷ l) =
    bind (f i a) _ λ b e. bind (each f (suc i) l) _ λ bs e'. passes (b ∷ bs) (ap₂ {C = List C} (λ x y. x ∷ y) (given (s i a) e) (given (each_same f h g s (suc i) l) e'))

module _ {P : Type 0} where
  pub record IsMap (t : Node P) : Type 0 where
    pub pairs : List (Pair P)
    pub is : a_mapping t ≡ pass pairs

  -- c was read from the map x
  pub record EntryIs (c : Component P) (x : Node P) : Type 0 where
    pub noted : c.entry ≡ note_of x
    pub map : IsMap x

  abbrev pub EntriesAre : Object P → List (Node P) → Type 0
  EntriesAre o xs = Along EntryIs o.components xs

  fields_give : (slots : Slots) (t : Node P) → Gives (λ ps. (ps ≡ pairs_in t) × IsMap t) (fields slots t)
  unfolding fields pairs_in pairs_or
  fields_give slots t =
      bind (a_mapping t) _ λ ps e.
      then (KEY unless all (λ p. is_some (key_of p)) ps) _ (then (TWICE unless all (λ n. leb (count n ps) 1) (somes slots)) _
      (passes ps (sym (ap pairs_or e), record { pairs = ps; is = e })))

  name-gives : (v : Node P) (k : Kind P) → Gives (λ n. n.value ≡ v) (name_kind v k)
  unfolding name_kind
  name-gives v (number n) = record { is = tt }
  name-gives v (words w) = record { is = refl }
  name-gives v (list l) = record { is = tt }
  name-gives v (mapping l) = record { is = tt }
  name-gives v null = record { is = tt }
  name-gives v another = record { is = tt }

  names-give : (limit : ℕ) (t : Node P) → Gives (λ ns. map (λ n. n.value) ns ≡ values_in (some t)) (names limit t)
  unfolding names name_of values_in pairs_in pairs_or
  names-give limit t =
      bind (a_mapping t) _ λ ps e. bind (each (λ i. name_of) 0 ps) _ λ ns e'.
      then (TEXT unless all (λ n. utf8 n.name.letters) ns) _ (then (COUNT unless leb (length ns) limit) _ (then (TWICE unless distinct (map (λ n. n.name.letters) ns)) _ (passes ns
      (given (each_same (λ i. name_of) (λ p. p.value) (λ n. n.value) (λ i p. name-gives p.value (kind p.key)) 0 ps) e' ∙ ap (λ k. map (λ p. p.value) (pairs_or k)) (sym e)))))

  -- each kind of map, and the field that matters
  module _ (L : Layout) where
    component-map : (t : Node P) → Gives (λ c. IsMap t) (component_fields L.component t)
    unfolding component_fields
    component-map t = bind (fields L.component t) _ λ ps e. passes _ (given (fields_give L.component t) e).1

    components-field : (t : Node P) → Gives (λ o. o.components ≡ field (slot components_at L.object) (pairs_in t)) (object_fields L.object t)
    unfolding object_fields
    components-field t = bind (fields L.object t) _ λ ps e. passes _ (ap (field (slot components_at L.object)) (given (fields_give L.object t) e).0)

    objects-field : (t : Node P) → Gives (λ r. r.objects ≡ field (slot objects_at L.root) (pairs_in t)) (root_fields L.root t)
    unfolding root_fields
    objects-field t = bind (fields L.root t) _ λ ps e. passes _ (ap (field (slot objects_at L.root)) (given (fields_give L.root t) e).0)

    component-gives : (start : ℕ) (above : Option ℕ) (n : Named P) → Gives (λ c. EntryIs c n.value) (component L start above n)
    unfolding component
    component-gives start above n =
        bind (component_fields L.component n.value) _ λ c e.
        let m = given (component-map n.value) e in
        bind (required_in (slot dtype_at L.component) c.dtype) _ λ dtype e. bind (required c.offset) _ λ offset e. bind (required c.length) _ λ length e.
        bind (optional (a_dtype L) dtype) _ λ own e. bind (required (or_else own above)) _ λ d e.
        bind (optional (a_type d) (present c.type)) _ λ t e. bind (a_number offset) _ λ o e. bind (a_number length) _ λ l e.
        then (optional a_number (present c.uncompressed-length)) _ (then (optional raw c.encoding) _ (bind (optional a_text (present c.digest)) _ λ g e.
        then (ALIGN unless eqb (o % alignment) 0) _ (then (BOUNDS unless (leb alignment o && leb (o + l) start)) _ (passes _ (record { noted = refl; map = m })))))

    components-give : (start : ℕ) (above : List ℕ → Option ℕ) (t : Node P) → Gives (λ cs. Along EntryIs cs (values_in (some t))) (components_of L start above t)
    unfolding components_of
    components-give start above t =
        let one : ℕ → Named P → Check (Component P) = λ j c. in_component j (component L start (above c.name.letters) c) in
        bind (names component_limit t) _ λ ns e.
        subst (λ xs. Gives (λ cs. Along EntryIs cs xs) (each one 0 ns)) (given (names-give component_limit t) e)
        (each-along one (λ n. n.value) (λ j n. in-component j (component L start (above n.name.letters) n) (component-gives start (above n.name.letters) n)) 0 ns)

    object-gives : (start : ℕ) (n : Named P) → Gives (λ o. EntriesAre o (entries_in L n.value)) (object L start n)
    unfolding object entries_in
    object-gives start n =
        bind (object_fields L.object n.value) _ λ o has. bind (required_in (slot dtype_at L.object) o.dtype) _ λ dtype e.
        bind (required o.shape) _ λ shape e. bind (required o.format) _ λ format e. bind (required o.components) _ λ components there.
        bind (optional (a_dtype L) dtype) _ λ d e. bind (shape_of shape) _ λ s e. bind (a_text format) _ λ f e. bind (optional attributes_of o.attributes) _ λ a e.
        bind (components_of L start (inherited f.letters d) components) _ λ cs are.
        then (format_rules f.letters s (map part cs)) _ (passes _ (subst (λ x. Along EntryIs cs (values_in x))
        (sym (required-some o.components components there) ∙ given (components-field n.value) has) (given (components-give start (inherited f.letters d) components) are)))

    objects-give : (start : ℕ) (t : Node P) → Gives (λ os. Along EntriesAre os (map (entries_in L) (values_in (some t)))) (objects_of L start t)
    unfolding objects_of
    objects-give start t =
        bind (names object_limit t) _ λ ns e.
        subst (λ xs. Gives (λ os. Along EntriesAre os xs) (each (λ i o. in_object i (object L start o)) 0 ns))
        (sym (map-map (λ n. n.value) (entries_in L) ns) ∙ ap (map (entries_in L)) (given (names-give object_limit t) e))
        (each-along (λ i o. in_object i (object L start o)) (λ n. entries_in L n.value) (λ i n. in-object i (object L start n) (object-gives start n)) 0 ns)

    judge-gives : (start : ℕ) (t : Node P) → Gives (λ m. Along EntriesAre m.objects (entries_of L t)) (judge L start t)
    unfolding judge entries_of
    judge-gives start t =
        bind (root_fields L.root t) _ λ r has. bind (required r.version) _ λ version e. then (a_version version) _ (bind (optional attributes_of r.attributes) _ λ a e.
        bind (required r.objects) _ λ objects there. bind (objects_of L start objects) _ λ os are.
        passes _ (subst (λ x. Along EntriesAre os (map (entries_in L) (values_in x))) (sym (required-some r.objects objects there) ∙ given (objects-field t) has) (given (objects-give start objects) are)))

    -- the components of a manifest that passes were read from its entries, in order
    pub judged-entries : (start : ℕ) (t : Node P) (m : Model P) → judge L start t ≡ pass m → Along EntriesAre m.objects (entries_of L t)
    judged-entries start t m e = given (judge-gives start t) e
