-- The order does not look at annotations: the checks of a tree with other annotations are its checks with their annotations changed.
use Prim.Native.Nat.{ℕ, zero, suc}
use mathlib.Core.List.{List, [], ◌∷◌, map}
use mathlib.Core.Bool.{Bool}
use mathlib.Core.Option.{Option, none, some}
use mathlib.Core.Path.{◌≡◌, refl, ap, sym, ◌∙◌}
use lib.ListN.{length-map, get_or}
use Rattle.meaning.specs.Tree.{Node, Pair, map_p, note_of}
use Rattle.meaning.specs.Check.{Check, pass, refuse, each}
use Rattle.meaning.specs.Text.{utf8}
use Rattle.meaning.specs.Model.{Word, Named}
use Rattle.meaning.specs.Notes.{map_check, map_option, map_word, map_pair, map_named}
use Rattle.meaning.specs.Kind.{a_number}
use Rattle.meaning.specs.Layouts.{Layout, Slots}
use Rattle.meaning.specs.Refusal.{KIND, KEY, TEXT}
use Rattle.meaning.specs.Field.{is_some, key_of, field, name_of}
use Rattle.meaning.specs.Format.{Part, Role}
use Rattle.meaning.specs.Judge.{a_dtype}
use Rattle.meaning.proofs.JudgeNatural.{map-map, each_map, each_number, present-map, a_number-map, a_word-map, a_list-map, a_table-map, a_text-map, key_of-map, field-map, name_of-map, names-map, a_dtype-map, part-map, note-map, optional-same, shape_of-map, components_of-map}
use Rattle.meaning.proofs.Tests.{cond_map}
use Rattle.meaning.proofs.Lengths.{map_both}
use Rattle.explained.specs.Fields.{length_of}
use Rattle.explained.specs.Step
use Rattle.explained.specs.Step.{Step, ◌at◌unless◌, given, passes, every, each_of, first}
use Rattle.explained.specs.Order.{more, number_steps, word_steps, mapping_steps, text_steps, dtype_steps, type_steps, raw_steps, version_steps, shape_steps, key_steps, repeat_steps, field_steps, missing, missing_in, same_name_steps, name_steps, component_steps, components_steps, note_or, length_in, length_note, all_of, of_role, role_steps, plain_steps, length_steps, dense_steps, csr_steps, coo_steps, group_steps, format_steps, object_steps, objects_steps, manifest_steps}
use Rattle.explained.specs.Notes.{map_step}

module _ {A B : Type 0} where
  given-map : (u : A → B) (m : Check A) → given (map_check u m) ≡ map_option u (given m)
  given-map u (pass a) = refl
  given-map u (refuse n o c) = refl

  passes-map : (u : A → B) (m : Check A) → passes (map_check u m) ≡ passes m
  passes-map u (pass a) = refl
  passes-map u (refuse n o c) = refl

  some-map : (u : A → B) (v : Option A) → is_some (map_option u v) ≡ is_some v
  unfolding is_some
  some-map u none = refl
  some-map u (some a) = refl

all_of-map : {A B : Type 0} (u : A → B) (m : Check (List A)) → all_of (map_check (map u) m) ≡ map u (all_of m)
unfolding all_of
all_of-map u (pass l) = refl
all_of-map u (refuse n o c) = refl

module _ {P Q A : Type 0} where
  map-bind : (g : Step P → Step Q) (v : Option A) (r : A → List (Step P)) → map g (Step.◌>>=◌ v r) ≡ Step.◌>>=◌ v (λ a. map g (r a))
  map-bind g none r = refl
  map-bind g (some a) r = refl

module _ {P A B : Type 0} where
  bind-map : (u : A → B) (v : Option A) (r : B → List (Step P)) → Step.◌>>=◌ (map_option u v) r ≡ Step.◌>>=◌ v (λ a. r (u a))
  bind-map u none r = refl
  bind-map u (some a) r = refl

ruleset Push = (map_both, map-bind, bind-map, given-map, passes-map, some-map)

module _ {P Q : Type 0} (f : P → Q) where
  number-map : (t : Node P) → number_steps (map_p f t) ≡ map (map_step f) (number_steps t)
  unfolding number_steps
  number-map t = simp (a_number-map, note-map)

  word-map : (t : Node P) → word_steps (map_p f t) ≡ map (map_step f) (word_steps t)
  unfolding word_steps
  word-map t = simp (a_word-map, note-map, Push)

  table-map : (t : Node P) → mapping_steps (map_p f t) ≡ map (map_step f) (mapping_steps t)
  unfolding mapping_steps
  table-map t = simp (a_table-map, note-map, Push)

  text-map : (t : Node P) → text_steps (map_p f t) ≡ map (map_step f) (text_steps t)
  unfolding text_steps
  text-map t = simp (word-map, a_word-map, note-map, Push)

  dtype-map : (L : Layout) (t : Node P) → dtype_steps L (map_p f t) ≡ map (map_step f) (dtype_steps L t)
  unfolding dtype_steps
  dtype-map L t = simp (word-map, a_word-map, note-map, Push)

  type-map : (d : ℕ) (t : Node P) → type_steps d (map_p f t) ≡ map (map_step f) (type_steps d t)
  unfolding type_steps
  type-map d t = simp (text-map, a_text-map, note-map, Push)

  raw-map : (t : Node P) → raw_steps (map_p f t) ≡ map (map_step f) (raw_steps t)
  unfolding raw_steps
  raw-map t = simp (word-map, a_word-map, note-map, Push)

  version-map : (t : Node P) → version_steps (map_p f t) ≡ map (map_step f) (version_steps t)
  unfolding version_steps
  version-map t = simp (word-map, a_word-map, note-map, Push)

  every_map : {A B : Type 0} (u : A → B) (n : ℕ) (place : A → P) (place' : B → Q) (right : A → Bool) (right' : B → Bool)
      → ((a : A) → place' (u a) ≡ f (place a)) → ((a : A) → right' (u a) ≡ right a) → (l : List A)
      → every n place' right' (map u l) ≡ map (map_step f) (every n place right l)
  every_map u n place place' right right' h k [] = refl
  every_map u n place place' right right' h k (a ∷ l) = rw (h a, k a, every_map u n place place' right right' h k l)

  elements-map : (l : List (Node P)) → every KIND note_of (λ d. passes (a_number d)) (map (map_p f) l) ≡ map (map_step f) (every KIND note_of (λ d. passes (a_number d)) l)
  elements-map = every_map (map_p f) KIND note_of note_of (λ d. passes (a_number d)) (λ d. passes (a_number d)) (note-map f) (λ a. simp (a_number-map))

  shape-map : (t : Node P) → shape_steps (map_p f t) ≡ map (map_step f) (shape_steps t)
  unfolding shape_steps
  shape-map t = simp (a_list-map, note-map, elements-map, each_number, Push)

  keys-map : (ps : List (Pair P)) → key_steps (map (map_pair f) ps) ≡ map (map_step f) (key_steps ps)
  unfolding key_steps
  keys-map =
      every_map (map_pair f) KEY (λ p. note_of p.key) (λ p. note_of p.key) (λ p. is_some (key_of p)) (λ p. is_some (key_of p)) (λ p. note-map f p.key) (λ p. simp key_of-map)

  repeats-map : (known before : List (List ℕ)) (ps : List (Pair P)) → repeat_steps known before (map (map_pair f) ps) ≡ map (map_step f) (repeat_steps known before ps)
  unfolding repeat_steps
  repeats-map known before [] = refl
  repeats-map known before (p ∷ ps) = rw (key_of-map f p, note-map f p.key, repeats-map known (more before (key_of p)) ps)

  fields_map : (known : Slots) (t : Node P) → field_steps known (map_p f t) ≡ map (map_step f) (field_steps known t)
  unfolding field_steps
  fields_map known t = simp (table-map, a_table-map, keys-map, repeats-map, Push)

  -- of a map, and of a field that may be there
  missing-map : {A : Type 0} (t : Node P) (v : Option A) → missing (map_p f t) v ≡ map (map_step f) (missing t v)
  unfolding missing
  missing-map t v = simp note-map

  missing-field : (t : Node P) (v : Option (Node P)) → missing t (map_option (map_p f) v) ≡ missing t v
  unfolding missing
  missing-field t v = simp some-map

  missing-in-map : (s : Option (List ℕ)) (t : Node P) (v : Option (Node P)) → missing_in s (map_p f t) (map_option (map_p f) v) ≡ map (map_step f) (missing_in s t v)
  unfolding missing_in
  missing-in-map none t v = refl
  missing-in-map (some n) t v = simp (missing-map, missing-field)

  same-names-map : (before : List (List ℕ)) (ns : List (Named P)) → same_name_steps before (map (map_named f) ns) ≡ map (map_step f) (same_name_steps before ns)
  unfolding same_name_steps
  same-names-map before [] = refl
  same-names-map before (n ∷ ns) = rw (same-names-map (n.name.letters ∷ before) ns)

  texts-map : (ns : List (Named P))
      → every TEXT (λ n. n.name.note) (λ n. utf8 n.name.letters) (map (map_named f) ns)
      ≡ map (map_step f) (every TEXT (λ n. n.name.note) (λ n. utf8 n.name.letters) ns)
  texts-map =
      every_map (map_named f) TEXT (λ n. n.name.note) (λ n. n.name.note) (λ n. utf8 n.name.letters) (λ n. utf8 n.name.letters) (λ n. refl) (λ n. refl)

  each-names : (i : ℕ) (l : List (Pair P)) → each (λ k. name_of) i (map (map_pair f) l) ≡ map_check (map (map_named f)) (each (λ k. name_of) i l)
  each-names = each_map (map_pair f) (map_named f) (λ k. name_of) (λ k. name_of) (λ k. name_of-map f)

  name-steps-map : (limit : ℕ) (t : Node P) → name_steps limit (map_p f t) ≡ map (map_step f) (name_steps limit t)
  unfolding name_steps
  name-steps-map limit t = simp (table-map, a_table-map, keys-map, each-names, texts-map, note-map, length-map, same-names-map, Push)

  in-component-map : (j : ℕ) (w : Option (Word P)) (s : List (Step P))
      → map (Step.in_component j (map_option (map_word f) w)) (map (map_step f) s) ≡ map (map_step f) (map (Step.in_component j w) s)
  in-component-map j w [] = refl
  in-component-map j w (x ∷ s) = ap {B = List (Step Q)} (λ r. map_step f (Step.in_component j w x) ∷ r) (in-component-map j w s)

  in-object-map : (i : ℕ) (w : Option (Word P)) (s : List (Step P))
      → map (Step.in_object i (map_option (map_word f) w)) (map (map_step f) s) ≡ map (map_step f) (map (Step.in_object i w) s)
  in-object-map i w [] = refl
  in-object-map i w (x ∷ s) = ap {B = List (Step Q)} (λ r. map_step f (Step.in_object i w x) ∷ r) (in-object-map i w s)

  each_of-map : {A B : Type 0} (u : A → B) (g : ℕ → A → List (Step P)) (g' : ℕ → B → List (Step Q)) → ((i : ℕ) (a : A) → g' i (u a) ≡ map (map_step f) (g i a))
      → (i : ℕ) (l : List A) → each_of g' i (map u l) ≡ map (map_step f) (each_of g i l)
  each_of-map u g g' h i [] = refl
  each_of-map u g g' h i (a ∷ l) = rw (h i a, each_of-map u g g' h (suc i) l) (sym (map_both (map_step f) (g i a) (each_of g (suc i) l)))

  module _ (L : Layout) where
    component-steps-map : (start : ℕ) (above : Option ℕ) (n : Named P) → component_steps L start above (map_named f n) ≡ map (map_step f) (component_steps L start above n)
    unfolding component_steps
    component-steps-map start above n =
        simp (
          fields_map,
          a_table-map,
          field-map,
          missing-map,
          missing-field,
          missing-in-map,
          dtype-map,
          optional-same f (a_dtype L) (a_dtype L) (a_dtype-map f L),
          present-map,
          type-map,
          number-map,
          a_number-map,
          raw-map,
          text-map,
          note-map,
          Push,
        )

    each-component-map : (start : ℕ) (above : List ℕ → Option ℕ) (i : ℕ) (ns : List (Named P))
        → each_of (λ j n. map (Step.in_component j (some n.name)) (component_steps L start (above n.name.letters) n)) i (map (map_named f) ns)
        ≡ map (map_step f) (each_of (λ j n. map (Step.in_component j (some n.name)) (component_steps L start (above n.name.letters) n)) i ns)
    each-component-map start above =
        each_of-map (map_named f) (λ j n. map (Step.in_component j (some n.name)) (component_steps L start (above n.name.letters) n))
        (λ j n. map (Step.in_component j (some n.name)) (component_steps L start (above n.name.letters) n))
        (λ j n. ap (map (Step.in_component j (some (map_word f n.name)))) (component-steps-map start (above n.name.letters) n)
        ∙ in-component-map j (some n.name) (component_steps L start (above n.name.letters) n))

    components-steps-map : (start : ℕ) (above : List ℕ → Option ℕ) (t : Node P) → components_steps L start above (map_p f t) ≡ map (map_step f) (components_steps L start above t)
    unfolding components_steps
    components-steps-map start above t = simp (name-steps-map, names-map, each-component-map start above, Push)

    -- ---------------------------------------------------------------- the format's rules, objects, the root

    length-in-map : (w : P) (o : Option (List (Pair P))) → length_in L (f w) (map_option (map (map_pair f)) o) ≡ f (length_in L w o)
    unfolding length_in note_or
    length-in-map w none = refl
    length-in-map w (some ps) = ap (note_or (f w)) (field-map f (length_of L) ps) ∙ go (field (length_of L) ps)
      where
        go : (v : Option (Node P)) → note_or (f w) (map_option (map_p f) v) ≡ f (note_or w v)
        go none = refl
        go (some t) = note-map f t

    length-note-map : (n : Named P) → length_note L (map_named f n) ≡ f (length_note L n)
    unfolding length_note
    length-note-map n = simp (a_table-map, note-map, length-in-map, Push)

    module _ (shape_note map_note : P) (shape : List ℕ) (ns : List (Named P)) (cs : List Part) where
      role-steps-map : (n : List ℕ) → role_steps L (f shape_note) (f map_note) shape (map (map_named f) ns) cs n ≡ map (map_step f) (role_steps L shape_note map_note shape ns cs n)
      unfolding role_steps
      role-steps-map n = refl

      -- looked up among the names
      looked-map : {A B : Type 0} (u : A → B) (g : Named P → A) (g' : Named Q → B) → ((n : Named P) → g' (map_named f n) ≡ u (g n)) → (d : A) (i : ℕ) (l : List (Named P))
          → get_or (map g' (map (map_named f) l)) i (u d) ≡ u (get_or (map g l) i d)
      looked-map u g g' h d i [] = refl
      looked-map u g g' h d zero (n ∷ l) = h n
      looked-map u g g' h d (suc i) (n ∷ l) = looked-map u g g' h d i l

      of-role-map : (r : Role) (s : List (Step P))
          → of_role L (f shape_note) (f map_note) shape (map (map_named f) ns) cs r (map (map_step f) s) ≡ map (map_step f) (of_role L shape_note map_note shape ns cs r s)
      unfolding of_role
      of-role-map r s =
          rw (looked-map (map_option (map_word f)) (λ n. some n.name) (λ n. some n.name) (λ n. refl) none r.index ns)
          (in-component-map r.index (get_or (map (λ n. some n.name) ns) r.index none) s)

      plain-steps-map : (r : Role) → plain_steps L (f shape_note) (f map_note) shape (map (map_named f) ns) cs r ≡ map (map_step f) (plain_steps L shape_note map_note shape ns cs r)
      unfolding plain_steps
      plain-steps-map r = rw (looked-map f (λ n. note_of n.value) (λ n. note_of n.value) (λ n. note-map f n.value) map_note r.index ns) (of-role-map r _)

      length-steps-map : (r : Role) (b : Bool)
          → length_steps L (f shape_note) (f map_note) shape (map (map_named f) ns) cs r b ≡ map (map_step f) (length_steps L shape_note map_note shape ns cs r b)
      unfolding length_steps
      length-steps-map r b = rw (looked-map f (length_note L) (length_note L) length-note-map map_note r.index ns) (of-role-map r _)

      format-steps-map : (w : List ℕ) → format_steps L (f shape_note) (f map_note) shape (map (map_named f) ns) cs w ≡ map (map_step f) (format_steps L shape_note map_note shape ns cs w)
      unfolding format_steps dense_steps csr_steps coo_steps group_steps
      format-steps-map w = simp (cond_map (map (map_step f)), role-steps-map, plain-steps-map, length-steps-map, Push)

    pub object-steps-map : (start : ℕ) (n : Named P) → object_steps L start (map_named f n) ≡ map (map_step f) (object_steps L start n)
    unfolding object_steps
    object-steps-map start n =
        simp (
          fields_map,
          a_table-map,
          field-map,
          missing-map,
          missing-field,
          missing-in-map,
          dtype-map,
          optional-same f (a_dtype L) (a_dtype L) (a_dtype-map f L),
          shape-map,
          shape_of-map,
          text-map,
          a_text-map,
          table-map,
          components-steps-map,
          components_of-map,
          names-map,
          all_of-map,
          map-map,
          part-map,
          note-map,
          format-steps-map,
          Push,
        )

    each-object-map : (start i : ℕ) (ns : List (Named P))
        → each_of (λ j n. map (Step.in_object j (some n.name)) (object_steps L start n)) i (map (map_named f) ns)
        ≡ map (map_step f) (each_of (λ j n. map (Step.in_object j (some n.name)) (object_steps L start n)) i ns)
    each-object-map start =
        each_of-map (map_named f) (λ j n. map (Step.in_object j (some n.name)) (object_steps L start n)) (λ j n. map (Step.in_object j (some n.name)) (object_steps L start n))
        (λ j n. ap (map (Step.in_object j (some (map_word f n.name)))) (object-steps-map start n) ∙ in-object-map j (some n.name) (object_steps L start n))

    objects-steps-map : (start : ℕ) (t : Node P) → objects_steps L start (map_p f t) ≡ map (map_step f) (objects_steps L start t)
    unfolding objects_steps
    objects-steps-map start t = simp (name-steps-map, names-map, each-object-map, Push)

    pub manifest-steps-map : (start : ℕ) (t : Node P) → manifest_steps L start (map_p f t) ≡ map (map_step f) (manifest_steps L start t)
    unfolding manifest_steps
    manifest-steps-map start t = simp (fields_map, a_table-map, field-map, missing-map, missing-field, version-map, table-map, objects-steps-map, Push)

  pub first-map : (ss : List (Step P)) → first (map (map_step f) ss) ≡ map_option (map_step f) (first ss)
  first-map [] = refl
  first-map (s ∷ ss) = rw (first-map ss) (sym (cond_map (map_option (map_step f)) s.right (first ss) (some s)))

  -- so code may be said of one annotation, and the span be put in last
  pub first-steps-map : (L : Layout) (start : ℕ) (t : Node P) → first (manifest_steps L start (map_p f t)) ≡ map_option (map_step f) (first (manifest_steps L start t))
  first-steps-map L start t = ap first (manifest-steps-map L start t) ∙ first-map (manifest_steps L start t)
