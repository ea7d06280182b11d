-- The judgement does not look at annotations: to judge a tree with other annotations is to judge it and change the annotations of the verdict.
use Prim.Native.Nat.{ℕ, suc}
use mathlib.Core.List.{List, [], ◌∷◌, map}
use mathlib.Core.Bool.{Bool, true, false, cond, ◌&&◌}
use mathlib.Core.Option.{Option, none, some}
use mathlib.Core.Path.{◌≡◌, refl, ap, sym}
use lib.Dec.{eqb, leb}
use lib.ListN.{length-map}
use Rattle.meaning.specs.Tree.{Node, Nodes, Pairs, uint, nint, bytes, text, chunked_bytes, chunked_text, array, dict, tag, simple, float, ε, ◌▸◌, ∅, ◌⇒◌▸◌, Pair, note_of, map_p, map_nodes, map_pairs, node_list, pair_list}
use Rattle.meaning.specs.Check.{Check, pass, refuse, ◌>>=◌, ◌>>◌, in_object, in_component, required, required_in, optional, each}
use Rattle.meaning.specs.Text.{all}
use Rattle.meaning.specs.Model.{Word, Named, Component}
use Rattle.meaning.specs.Kind.{Kind, number, words, list, mapping, null, another, kind, as_number, as_word, as_list, as_mapping, present_kind, present, a_number, a_word, a_list, a_mapping, a_text}
use Rattle.meaning.specs.Layouts.{Slots, somes, Layout}
use Rattle.meaning.specs.Field.{is_some, key_kind, key_of, named, count, get, field, fields, root_fields, object_fields, component_fields, name_kind, name_of, names}
use Rattle.meaning.specs.Judge.{a_dtype, a_type, raw, component, part, letters_of, attributes_of, shape_of, components_of, object, a_version, objects_of, judge}
use Rattle.meaning.specs.Notes.{map_check, map_option, map_word, map_pair, map_named, map_kind, map_root, map_object_fields, map_component_fields, map_component, map_object, map_model}
use Rattle.meaning.proofs.Tests.{cond_map}

module _ {A B C : Type 0} where
  pub map-bind : (h : B → C) (m : Check A) (k : A → Check B) → map_check h (m >>= k) ≡ (m >>= λ a. map_check h (k a))
  map-bind h (pass a) k = refl
  map-bind h (refuse n o c) k = refl

  pub bind-map : (g : A → B) (m : Check A) (k : B → Check C) → (map_check g m >>= k) ≡ (m >>= λ a. k (g a))
  bind-map g (pass a) k = refl
  bind-map g (refuse n o c) k = refl

  pub map-then : (h : B → C) (m : Check A) (k : Check B) → map_check h (m >> k) ≡ (m >> map_check h k)
  map-then h (pass a) k = refl
  map-then h (refuse n o c) k = refl

  pub then_map : (g : A → B) (m : Check A) (k : Check C) → (map_check g m >> k) ≡ (m >> k)
  then_map g (pass a) k = refl
  then_map g (refuse n o c) k = refl

module _ {A B C D : Type 0} (u : A → B) (v : C → D) where
  pub each_map : (g : ℕ → A → Check C) (g' : ℕ → B → Check D) → ((i : ℕ) (a : A) → g' i (u a) ≡ map_check v (g i a))
      → (i : ℕ) (l : List A) → each g' i (map u l) ≡ map_check (map v) (each g i l)
  each_map g g' h i [] = refl
  each_map g g' h i (a ∷ l) = rw (h i a, each_map g g' h (suc i) l) (simp (map-bind, bind-map))

  pub optional-map : (g : A → Check C) (g' : B → Check D) → ((a : A) → g' (u a) ≡ map_check v (g a))
      → (o : Option A) → optional g' (map_option u o) ≡ map_check (map_option v) (optional g o)
  optional-map g g' h none = refl
  optional-map g g' h (some a) = rw (h a) (simp (map-bind, bind-map))

module _ {A B : Type 0} where
  pub in_component-map : (u : A → B) (j : ℕ) (m : Check A) → in_component j (map_check u m) ≡ map_check u (in_component j m)
  in_component-map u j (pass a) = refl
  in_component-map u j (refuse n o c) = refl

  pub in_object-map : (u : A → B) (j : ℕ) (m : Check A) → in_object j (map_check u m) ≡ map_check u (in_object j m)
  in_object-map u j (pass a) = refl
  in_object-map u j (refuse n o c) = refl

  pub required-map : (u : A → B) (o : Option A) → required (map_option u o) ≡ map_check u (required o)
  required-map u none = refl
  required-map u (some a) = refl

  pub required_in-map : (s : Option (List ℕ)) (u : A → B) (o : Option A) → required_in s (map_option u o) ≡ map_check (map_option u) (required_in s o)
  required_in-map none u o = refl
  required_in-map (some n) u none = refl
  required_in-map (some n) u (some a) = refl

  pub all_map : (u : A → B) (p : B → Bool) (l : List A) → all p (map u l) ≡ all (λ a. p (u a)) l
  all_map u p [] = refl
  all_map u p (a ∷ l) = ap (λ r. p (u a) && r) (all_map u p l)

  pub map-map : {C : Type 0} (u : A → B) (v : B → C) (l : List A) → map v (map u l) ≡ map (λ a. v (u a)) l
  map-map u v [] = refl
  map-map {C} u v (a ∷ l) = ap {B = List C} (λ r. v (u a) ∷ r) (map-map u v l)

pub ruleset Bind = (map-bind, bind-map, map-then, then_map, required-map, required_in-map, in_component-map, in_object-map)

module _ {P Q : Type 0} (f : P → Q) where
  node_list-map : (ns : Nodes P) → node_list (map_nodes f ns) ≡ map (map_p f) (node_list ns)
  node_list-map ε = refl
  node_list-map (◌▸◌ n ns) = ap {B = List (Node Q)} (λ r. map_p f n ∷ r) (node_list-map ns)

  pair_list-map : (ns : Pairs P) → pair_list (map_pairs f ns) ≡ map (map_pair f) (pair_list ns)
  pair_list-map ∅ = refl
  pair_list-map (◌⇒◌▸◌ k v ns) = ap {B = List (Pair Q)} (λ r. map_pair f (record { key = k; value = v }) ∷ r) (pair_list-map ns)

  null-map : (b : Bool) → cond {A = Kind Q} b null another ≡ map_kind f (cond b null another)
  null-map true = refl
  null-map false = refl

  pub kind-map : (t : Node P) → kind (map_p f t) ≡ map_kind f (kind t)
  unfolding kind
  kind-map (uint p n) = refl
  kind-map (nint p n) = refl
  kind-map (bytes p bs) = refl
  kind-map (text p bs) = refl
  kind-map (chunked_bytes p cs) = refl
  kind-map (chunked_text p cs) = refl
  kind-map (array p ns) = ap list (node_list-map ns)
  kind-map (dict p ps) = ap mapping (pair_list-map ps)
  kind-map (tag p n t) = refl
  kind-map (simple p n) = null-map (eqb n 22)
  kind-map (float p w b) = refl

  as_number-map : (k : Kind P) → as_number (map_kind f k) ≡ as_number k
  unfolding as_number
  as_number-map (number n) = refl
  as_number-map (words w) = refl
  as_number-map (list l) = refl
  as_number-map (mapping l) = refl
  as_number-map null = refl
  as_number-map another = refl

  as_word-map : (k : Kind P) → as_word (map_kind f k) ≡ map_check (map_word f) (as_word k)
  unfolding as_word
  as_word-map (number n) = refl
  as_word-map (words w) = refl
  as_word-map (list l) = refl
  as_word-map (mapping l) = refl
  as_word-map null = refl
  as_word-map another = refl

  as_list-map : (k : Kind P) → as_list (map_kind f k) ≡ map_check (map (map_p f)) (as_list k)
  unfolding as_list
  as_list-map (number n) = refl
  as_list-map (words w) = refl
  as_list-map (list l) = refl
  as_list-map (mapping l) = refl
  as_list-map null = refl
  as_list-map another = refl

  as_table-map : (k : Kind P) → as_mapping (map_kind f k) ≡ map_check (map (map_pair f)) (as_mapping k)
  unfolding as_mapping
  as_table-map (number n) = refl
  as_table-map (words w) = refl
  as_table-map (list l) = refl
  as_table-map (mapping l) = refl
  as_table-map null = refl
  as_table-map another = refl

  present_kind-map : (t : Node P) (k : Kind P) → present_kind (map_p f t) (map_kind f k) ≡ map_option (map_p f) (present_kind t k)
  unfolding present_kind
  present_kind-map t (number n) = refl
  present_kind-map t (words w) = refl
  present_kind-map t (list l) = refl
  present_kind-map t (mapping l) = refl
  present_kind-map t null = refl
  present_kind-map t another = refl

  key_kind-map : (k : Kind P) → key_kind (map_kind f k) ≡ key_kind k
  unfolding key_kind
  key_kind-map (number n) = refl
  key_kind-map (words w) = refl
  key_kind-map (list l) = refl
  key_kind-map (mapping l) = refl
  key_kind-map null = refl
  key_kind-map another = refl

  pub present-map : (o : Option (Node P)) → present (map_option (map_p f) o) ≡ map_option (map_p f) (present o)
  unfolding present
  present-map none = refl
  present-map (some t) = simp (kind-map, present_kind-map)

  pub a_number-map : (t : Node P) → a_number (map_p f t) ≡ a_number t
  unfolding a_number
  a_number-map t = simp (kind-map, as_number-map)

  pub a_word-map : (t : Node P) → a_word (map_p f t) ≡ map_check (map_word f) (a_word t)
  unfolding a_word
  a_word-map t = simp (kind-map, as_word-map)

  pub a_list-map : (t : Node P) → a_list (map_p f t) ≡ map_check (map (map_p f)) (a_list t)
  unfolding a_list
  a_list-map t = simp (kind-map, as_list-map)

  pub a_table-map : (t : Node P) → a_mapping (map_p f t) ≡ map_check (map (map_pair f)) (a_mapping t)
  unfolding a_mapping
  a_table-map t = simp (kind-map, as_table-map)

  pub a_text-map : (t : Node P) → a_text (map_p f t) ≡ map_check (map_word f) (a_text t)
  unfolding a_text
  a_text-map t = simp (a_word-map, map-bind, bind-map, map-then, then_map)

  pub key_of-map : (p : Pair P) → key_of (map_pair f p) ≡ key_of p
  unfolding key_of
  key_of-map p = simp (kind-map, key_kind-map)

  pub named-map : (n : List ℕ) (p : Pair P) → named n (map_pair f p) ≡ named n p
  unfolding named
  named-map n p = simp key_of-map

  count_map : (n : List ℕ) (ps : List (Pair P)) → count n (map (map_pair f) ps) ≡ count n ps
  unfolding count
  count_map n [] = refl
  count_map n (p ∷ ps) = rw (named-map n p, count_map n ps)

  pub get-map : (n : List ℕ) (ps : List (Pair P)) → get n (map (map_pair f) ps) ≡ map_option (map_p f) (get n ps)
  unfolding get
  get-map n [] = refl
  get-map n (p ∷ ps) = rw (named-map n p, get-map n ps) (sym (cond_map (map_option (map_p f)) (named n p) (some p.value) (get n ps)))

  keys-map : (ps : List (Pair P)) → all (λ p. is_some (key_of p)) (map (map_pair f) ps) ≡ all (λ p. is_some (key_of p)) ps
  keys-map [] = refl
  keys-map (p ∷ ps) = rw (key_of-map p, keys-map ps)

  repeats-map : (ns : List (List ℕ)) (ps : List (Pair P)) → all (λ n. leb (count n (map (map_pair f) ps)) 1) ns ≡ all (λ n. leb (count n ps) 1) ns
  repeats-map ns ps = simp count_map

  pub field-map : (s : Option (List ℕ)) (ps : List (Pair P)) → field s (map (map_pair f) ps) ≡ map_option (map_p f) (field s ps)
  unfolding field
  field-map none ps = refl
  field-map (some n) ps = get-map n ps

  pub fields_map : (slots : Slots) (t : Node P) → fields slots (map_p f t) ≡ map_check (map (map_pair f)) (fields slots t)
  unfolding fields
  fields_map slots t = simp (a_table-map, keys-map, repeats-map, map-bind, bind-map, map-then, then_map)

  pub root_fields-map : (slots : Slots) (t : Node P) → root_fields slots (map_p f t) ≡ map_check (map_root f) (root_fields slots t)
  unfolding root_fields
  root_fields-map slots t = simp (fields_map, field-map, map-bind, bind-map)

  pub object_fields-map : (slots : Slots) (t : Node P) → object_fields slots (map_p f t) ≡ map_check (map_object_fields f) (object_fields slots t)
  unfolding object_fields
  object_fields-map slots t = simp (fields_map, field-map, map-bind, bind-map)

  pub component_fields-map : (slots : Slots) (t : Node P) → component_fields slots (map_p f t) ≡ map_check (map_component_fields f) (component_fields slots t)
  unfolding component_fields
  component_fields-map slots t = simp (fields_map, field-map, map-bind, bind-map)

  name_kind-map : (v : Node P) (k : Kind P) → name_kind (map_p f v) (map_kind f k) ≡ map_check (map_named f) (name_kind v k)
  unfolding name_kind
  name_kind-map v (number n) = refl
  name_kind-map v (words w) = refl
  name_kind-map v (list l) = refl
  name_kind-map v (mapping l) = refl
  name_kind-map v null = refl
  name_kind-map v another = refl

  pub name_of-map : (p : Pair P) → name_of (map_pair f p) ≡ map_check (map_named f) (name_of p)
  unfolding name_of
  name_of-map p = simp (kind-map, name_kind-map)

  pub names-map : (limit : ℕ) (t : Node P) → names limit (map_p f t) ≡ map_check (map (map_named f)) (names limit t)
  unfolding names
  names-map limit t =
      simp (a_table-map, each_map (map_pair f) (map_named f) (λ i. name_of) (λ i. name_of) (λ i. name_of-map), all_map, map-map, length-map, Bind)

  pub a_dtype-map : (L : Layout) (t : Node P) → a_dtype L (map_p f t) ≡ a_dtype L t
  unfolding a_dtype
  a_dtype-map L t = simp (a_word-map, Bind)

  pub a_type-map : (d : ℕ) (t : Node P) → a_type d (map_p f t) ≡ map_check (map_word f) (a_type d t)
  unfolding a_type
  a_type-map d t = simp (a_text-map, Bind)

  pub raw-map : (t : Node P) → raw (map_p f t) ≡ raw t
  unfolding raw
  raw-map t = simp (a_word-map, Bind)

  pub optional-type : (d : ℕ) (o : Option (Node P)) → optional (a_type d) (map_option (map_p f) o) ≡ map_check (map_option (map_word f)) (optional (a_type d) o)
  optional-type d = optional-map (map_p f) (map_word f) (a_type d) (a_type d) (a_type-map d)

  pub optional-text : (o : Option (Node P)) → optional a_text (map_option (map_p f) o) ≡ map_check (map_option (map_word f)) (optional a_text o)
  optional-text = optional-map (map_p f) (map_word f) a_text a_text a_text-map

  pub optional-same : {A : Type 0} (g : Node P → Check A) (g' : Node Q → Check A) → ((a : Node P) → g' (map_p f a) ≡ g a) → (o : Option (Node P)) → optional g' (map_option (map_p f) o) ≡ optional g o
  optional-same g g' h none = refl
  optional-same g g' h (some a) = rw (h a)

  pub note-map : (t : Node P) → note_of (map_p f t) ≡ f (note_of t)
  note-map (uint p n) = refl
  note-map (nint p n) = refl
  note-map (bytes p bs) = refl
  note-map (text p bs) = refl
  note-map (chunked_bytes p bs) = refl
  note-map (chunked_text p bs) = refl
  note-map (array p ns) = refl
  note-map (dict p ps) = refl
  note-map (tag p n t) = refl
  note-map (simple p n) = refl
  note-map (float p w b) = refl

  pub component-map : (L : Layout) (start : ℕ) (above : Option ℕ) (n : Named P) → component L start above (map_named f n) ≡ map_check (map_component f) (component L start above n)
  unfolding component
  component-map L start above n =
      simp (
        note-map,
        component_fields-map,
        optional-same (a_dtype L) (a_dtype L) (a_dtype-map L),
        present-map,
        optional-type,
        optional-text,
        a_number-map,
        optional-same a_number a_number a_number-map,
        optional-same raw raw raw-map,
        Bind,
      )

  pub attributes_of-map : (t : Node P) → attributes_of (map_p f t) ≡ map_check (map_p f) (attributes_of t)
  unfolding attributes_of
  attributes_of-map t = simp (a_table-map, Bind)

  pub optional-attributes : (o : Option (Node P)) → optional attributes_of (map_option (map_p f) o) ≡ map_check (map_option (map_p f)) (optional attributes_of o)
  optional-attributes = optional-map (map_p f) (map_p f) attributes_of attributes_of attributes_of-map

  pub each_number : (i : ℕ) (l : List (Node P)) → each (λ i. a_number) i (map (map_p f) l) ≡ each (λ i. a_number) i l
  each_number i [] = refl
  each_number i (a ∷ l) = rw (a_number-map a, each_number (suc i) l)

  pub letters-map : (o : Option (Word P)) → letters_of (map_option (map_word f) o) ≡ letters_of o
  unfolding letters_of
  letters-map none = refl
  letters-map (some w) = refl

  pub part-map : (c : Component P) → part (map_component f c) ≡ part c
  unfolding part
  part-map c = simp letters-map

  pub shape_of-map : (t : Node P) → shape_of (map_p f t) ≡ shape_of t
  unfolding shape_of
  shape_of-map t = simp (a_list-map, each_number, Bind)

  pub components_of-map : (L : Layout) (start : ℕ) (above : List ℕ → Option ℕ) (t : Node P)
      → components_of L start above (map_p f t) ≡ map_check (map (map_component f)) (components_of L start above t)
  unfolding components_of
  components_of-map L start above t =
      simp (
        names-map,
        each_map (map_named f) (map_component f) (λ j c. in_component j (component L start (above c.name.letters) c)) (λ j c. in_component j (component L start (above c.name.letters) c))
            (λ j c. simp (component-map, Bind)),
        Bind,
      )

  pub object-map : (L : Layout) (start : ℕ) (n : Named P) → object L start (map_named f n) ≡ map_check (map_object f) (object L start n)
  unfolding object
  object-map L start n =
      simp (object_fields-map, optional-same (a_dtype L) (a_dtype L) (a_dtype-map L), shape_of-map, a_text-map, optional-attributes, components_of-map, map-map, part-map, Bind)

  pub a_version-map : (t : Node P) → a_version (map_p f t) ≡ a_version t
  unfolding a_version
  a_version-map t = simp (a_word-map, Bind)

  pub objects_of-map : (L : Layout) (start : ℕ) (t : Node P) → objects_of L start (map_p f t) ≡ map_check (map (map_object f)) (objects_of L start t)
  unfolding objects_of
  objects_of-map L start t =
      simp (
        names-map,
        each_map (map_named f) (map_object f) (λ j c. in_object j (object L start c)) (λ j c. in_object j (object L start c)) (λ j c. simp (object-map, Bind)),
        Bind,
      )

  pub judge-map : (L : Layout) (start : ℕ) (t : Node P) → judge L start (map_p f t) ≡ map_check (map_model f) (judge L start t)
  unfolding judge
  judge-map L start t = simp (root_fields-map, a_version-map, optional-attributes, objects_of-map, Bind)
