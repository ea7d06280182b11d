-- The judgement of a placed tree takes its words and attributes from the tree alone, its blobs are aligned and end before the manifest, and it refuses with numbers up to LENGTH.
use Prim.Native.Nat.{ℕ, suc, ◌+◌, ◌%◌, ◌≤◌, ◌<◌}
use native.Mathlib.Omega.{arith}
use mathlib.Core.List.{List, [], ◌∷◌, map}
use mathlib.Core.Bool.{Bool, true, false, cond, ◌&&◌}
use mathlib.Core.Option.{Option, none, some}
use mathlib.Core.Path.{◌≡◌, refl, ap, sym, subst, ◌∙◌}
use lib.ListN.{length}
use lib.Dec.{eqb, leb}
use borrow.Author.Tests.{leb-true, eqb-true}
use Rattle.meaning.specs.Tree.{Node, Pairs, uint, nint, bytes, text, chunked_bytes, chunked_text, array, dict, tag, simple, float, ∅, ◌⇒◌▸◌, Pair, pair_list, note_of}
use Rattle.meaning.specs.Check.{Check, pass, refuse, ◌>>◌, in_object, in_component, required, required_in, optional, each}
use Rattle.meaning.specs.Text.{ascii, same, all, distinct, utf8}
use Rattle.meaning.specs.Refusal.{KIND, KEY, TEXT, TWICE, VERSION, MAJOR, COUNT, DTYPE, ENCODING, TYPE, ALIGN, BOUNDS}
use Rattle.meaning.specs.Limit.{object_limit, component_limit, alignment}
use Rattle.meaning.specs.Read.{Span}
use Rattle.meaning.specs.Model.{Word, Named, Component, RootFields, ObjectFields, ComponentFields}
use Rattle.meaning.specs.Kind.{Kind, number, words, list, mapping, null, another, kind, as_number, as_word, as_list, as_mapping, a_number, a_word, a_list, a_mapping, a_text, present_kind, present}
use Rattle.meaning.specs.Version.{version_shape, major_one}
use Rattle.meaning.specs.Layouts.{Slots, slot, somes, Layout, dtype_at, components_at, objects_at, thirteen}
use Rattle.meaning.specs.Field.{is_some, key_of, count, named, get, field, fields, root_fields, object_fields, component_fields, name_kind, name_of, names}
use Rattle.meaning.specs.Types.{u64, code_from, logicals, listed, fits_over}
use Rattle.meaning.specs.Format.{format_rules}
use Rattle.meaning.specs.Judge.{code_or, or_else, is_index, inherited, a_dtype, a_type, raw, attributes_of, component, part, shape_of, components_of, object, a_version, objects_of, judge}
use Rattle.meaning.proofs.Entries.{pairs_or, pairs_in, values_in, entries_in, entries_of}
use Rattle.meaning.proofs.Tests.{both_left, both_right}
use Rattle.meaning.specs.Every.{Every, IfAny}
use Rattle.shown.specs.Accepted.{WordStands, AttributesStand, BlobLies, ComponentAccepted, ObjectAccepted, ModelAccepted}
use Rattle.shown.specs.Placed.{less, Placed, PlacedPairs, PlacedPair}
use Rattle.shown.proofs.Judged.{Any, Judged, passes, faults, with-verdict, so-too, in-object, in-component, is-required, bind, then, if-any, tested, test, each-so, any-each}
use Rattle.shown.proofs.FormatNumbered.{format-so}

-- ---------------------------------------------------------------- storage codes

code-so : (i : ℕ) (ss : List (List ℕ)) (n : List ℕ) → IfAny (λ (c : ℕ). c < i + length ss) (code_from i ss n)
unfolding code_from
code-so i [] n = tt
code-so i (s ∷ ss) n = by (same s n) (code_from (suc i) ss n) (code-so (suc i) ss n)
  where
    further : (o : Option ℕ) → IfAny (λ (c : ℕ). c < suc i + length ss) o → IfAny (λ (c : ℕ). c < i + suc (length ss)) o
    further none h = tt
    further (some c) h = omega (arith, h)

    by : (b : Bool) (r : Option ℕ) → IfAny (λ (c : ℕ). c < suc i + length ss) r → IfAny (λ (c : ℕ). c < i + suc (length ss)) (cond b (some i) r)
    by true r h = omega arith
    by false r h = further r h

code_or-so : (o : Option ℕ) → IfAny (λ (c : ℕ). c < 13) o → Judged (λ (d : ℕ). d < 13) (code_or o)
unfolding code_or
code_or-so none h = faults DTYPE tt
code_or-so (some c) h = passes c h

-- of a code that is a storage's, if there is one
abbrev Stored : Option ℕ → Type 0
Stored = IfAny (λ (c : ℕ). c < 13)

or_else-so : (o r : Option ℕ) → Stored o → Stored r → Stored (or_else o r)
unfolding or_else
or_else-so none r h k = k
or_else-so (some c) r h k = h

inherited-so : (format : List ℕ) (o : Option ℕ) (role : List ℕ) → Stored o → Stored (inherited format o role)
unfolding inherited u64
inherited-so format none role h = tt
inherited-so format (some c) role h = by (is_index format role)
  where
    by : (b : Bool) → cond b 8 c < 13
    by true = omega arith
    by false = h

-- what is absent stays so
absent : {A B : Type 0} (f : A → Check B) (o : Option A) (r : Option B) → optional f o ≡ pass r → o ≡ none → r ≡ none
absent f none none e i = refl
absent f none (some b) e i = cc
absent f (some a) r e i = cc

absent-in : {A : Type 0} (name : Option (List ℕ)) (o r : Option A) → required_in name o ≡ pass r → name ≡ none → o ≡ none → r ≡ none
absent-in none none none e i j = refl
absent-in none none (some b) e i j = cc
absent-in none (some a) r e i j = cc
absent-in (some n) o r e i j = cc

required-in : {A : Type 0} {Q : A → Type 0} (name : Option (List ℕ)) (o : Option A) → IfAny Q o → Judged (IfAny Q) (required_in name o)
required-in none o h = record { is = h }
required-in (some n) none h = record { is = tt }
required-in (some n) (some a) h = record { is = h }

-- ---------------------------------------------------------------- the manifest's maps

module _ (L : Layout) (file : List ℕ) (start : ℕ) where
  -- with d levels left
  abbrev pub At : ℕ → Node Span → Type 0
  At = Placed L file start

  abbrev Pairing : ℕ → Pair Span → Type 0
  Pairing = PlacedPair L file start

  abbrev WordHere : Word Span → Type 0
  WordHere = WordStands L file start

  -- what is taken out of a placed node
  abbrev Kinds : ℕ → Kind Span → Type 0
  Kinds d (number n) = Unit {0}
  Kinds d (words w) = WordHere w
  Kinds d (list l) = Unit {0}
  Kinds d (mapping ps) = Every (Pairing (less d)) ps
  Kinds d null = Unit {0}
  Kinds d another = Unit {0}

  pairs-so : (d : ℕ) (ps : Pairs Span) → PlacedPairs L file start d ps → Every (Pairing d) (pair_list ps)
  pairs-so d ∅ h = tt
  pairs-so d (◌⇒◌▸◌ k v ps) h = (h.0, pairs-so d ps h.1)

  null-so : (d : ℕ) (b : Bool) → Kinds d (cond b null another)
  null-so d true = tt
  null-so d false = tt

  kind-so : (d : ℕ) (t : Node Span) → At d t → Kinds d (kind t)
  unfolding kind
  kind-so d (uint p n) h = tt
  kind-so d (nint p n) h = tt
  kind-so d (bytes p bs) h = tt
  kind-so d (text p bs) h = h.1
  kind-so d (chunked_bytes p bs) h = tt
  kind-so d (chunked_text p bs) h = tt
  kind-so d (array p ns) h = tt
  kind-so d (dict p ps) h = pairs-so (less d) ps h.1
  kind-so d (tag p n t) h = tt
  kind-so d (simple p n) h = null-so d (eqb n 22)
  kind-so d (float p w b) h = tt

  as_number-so : (k : Kind Span) → Judged Any (as_number k)
  unfolding as_number
  as_number-so (number n) = passes n tt
  as_number-so (words w) = faults KIND tt
  as_number-so (list l) = faults KIND tt
  as_number-so (mapping l) = faults KIND tt
  as_number-so null = faults KIND tt
  as_number-so another = faults KIND tt

  as_word-so : (d : ℕ) (k : Kind Span) → Kinds d k → Judged WordHere (as_word k)
  unfolding as_word
  as_word-so d (number n) h = faults KIND tt
  as_word-so d (words w) h = passes w h
  as_word-so d (list l) h = faults KIND tt
  as_word-so d (mapping l) h = faults KIND tt
  as_word-so d null h = faults KIND tt
  as_word-so d another h = faults KIND tt

  as_list-so : (k : Kind Span) → Judged Any (as_list k)
  unfolding as_list
  as_list-so (number n) = faults KIND tt
  as_list-so (words w) = faults KIND tt
  as_list-so (list l) = passes l tt
  as_list-so (mapping l) = faults KIND tt
  as_list-so null = faults KIND tt
  as_list-so another = faults KIND tt

  as_table-so : (d : ℕ) (k : Kind Span) → Kinds d k → Judged (Every (Pairing (less d))) (as_mapping k)
  unfolding as_mapping
  as_table-so d (number n) h = faults KIND tt
  as_table-so d (words w) h = faults KIND tt
  as_table-so d (list l) h = faults KIND tt
  as_table-so d (mapping l) h = passes l h
  as_table-so d null h = faults KIND tt
  as_table-so d another h = faults KIND tt

  present_kind-so : (d : ℕ) (t : Node Span) (k : Kind Span) → At d t → IfAny (At d) (present_kind t k)
  unfolding present_kind
  present_kind-so d t (number n) h = h
  present_kind-so d t (words w) h = h
  present_kind-so d t (list l) h = h
  present_kind-so d t (mapping l) h = h
  present_kind-so d t null h = tt
  present_kind-so d t another h = h

  abbrev pub Naming : ℕ → Named Span → Type 0
  Naming d n = WordHere n.name × At d n.value

  name_kind-so : (d : ℕ) (v : Node Span) (k : Kind Span) → At d v → Kinds d k → Judged (Naming d) (name_kind v k)
  unfolding name_kind
  name_kind-so d v (number n) a h = faults KEY tt
  name_kind-so d v (words w) a h = passes (record { name = w; value = v }) (h, a)
  name_kind-so d v (list l) a h = faults KEY tt
  name_kind-so d v (mapping l) a h = faults KEY tt
  name_kind-so d v null a h = faults KEY tt
  name_kind-so d v another a h = faults KEY tt

  number-so : (t : Node Span) → Judged Any (a_number t)
  unfolding a_number
  number-so t = as_number-so (kind t)

  word-so : (d : ℕ) (t : Node Span) → At d t → Judged WordHere (a_word t)
  unfolding a_word
  word-so d t h = as_word-so d (kind t) (kind-so d t h)

  table-so : (d : ℕ) (t : Node Span) → At d t → Judged (Every (Pairing (less d))) (a_mapping t)
  unfolding a_mapping
  table-so d t h = as_table-so d (kind t) (kind-so d t h)

  text-so : (d : ℕ) (t : Node Span) → At d t → Judged WordHere (a_text t)
  unfolding a_text
  text-so d t h = bind (a_word t) _ (word-so d t h) λ w q. tested TEXT (utf8 w.letters) _ tt λ e. passes w q

  present-so : (d : ℕ) (o : Option (Node Span)) → IfAny (At d) o → IfAny (At d) (present o)
  unfolding present
  present-so d none h = tt
  present-so d (some t) h = present_kind-so d t (kind t) h

  get-so : (d : ℕ) (n : List ℕ) (ps : List (Pair Span)) → Every (Pairing d) ps → IfAny (At d) (get n ps)
  unfolding get
  get-so d n [] h = tt
  get-so d n (p ∷ ps) h = by (named n p) (get n ps) (get-so d n ps h.1)
    where
      by : (b : Bool) (r : Option (Node Span)) → IfAny (At d) r → IfAny (At d) (cond b (some p.value) r)
      by true r q = h.0.1
      by false r q = q

  field-so : (d : ℕ) (s : Option (List ℕ)) (ps : List (Pair Span)) → Every (Pairing d) ps → IfAny (At d) (field s ps)
  unfolding field
  field-so d none ps h = tt
  field-so d (some n) ps h = get-so d n ps h

  no_field : (s : Option (List ℕ)) (ps : List (Pair Span)) → s ≡ none → field s ps ≡ none
  unfolding field
  no_field s ps e = ap (λ (s : Option (List ℕ)). field s ps) e

  fields-so : (d : ℕ) (known : Slots) (t : Node Span) → At d t → Judged (λ ps. (a_mapping t ≡ pass ps) × Every (Pairing (less d)) ps) (fields known t)
  unfolding fields
  fields-so d known t h =
      bind (a_mapping t) _ (with-verdict (a_mapping t) (table-so d t h)) λ ps q.
      tested KEY (all (λ p. is_some (key_of p)) ps) _ tt λ e. tested TWICE (all (λ n. leb (count n ps) 1) (somes known)) _ tt λ f. passes ps q

  pub names-so : (d limit : ℕ) (t : Node Span) → At d t → Judged (Every (Naming (less d))) (names limit t)
  unfolding names name_of
  names-so d limit t h =
      bind (a_mapping t) _ (table-so d t h) λ ps q.
      bind (each (λ i. name_of) 0 ps) _ (each-so (λ i. name_of) (λ i p a. name_kind-so (less d) p.value (kind p.key) a.1 (kind-so (less d) p.key a.0)) 0 ps q) λ ns r.
      tested TEXT (all (λ n. utf8 n.name.letters) ns) _ tt λ e.
      tested COUNT (leb (length ns) limit) _ tt λ f.
      tested TWICE (distinct (map (λ n. n.name.letters) ns)) _ tt λ g. passes ns r

  -- ---- components: their fields have 27 levels left

  codes-below : (w : List ℕ) → Stored (code_from 0 L.dtypes w)
  codes-below w =
      let e : 0 + length L.dtypes ≡ 13 = omega (arith, L.all_named ∙ thirteen) in
      subst (λ (n : ℕ). IfAny (λ (c : ℕ). c < n) (code_from 0 L.dtypes w)) e (code-so 0 L.dtypes w)

  dtype-so : (d : ℕ) (t : Node Span) → At d t → Judged (λ (c : ℕ). c < 13) (a_dtype L t)
  unfolding a_dtype
  dtype-so d t h = bind (a_word t) _ (word-so d t h) λ w q. code_or-so _ (codes-below w.letters)

  type-so : (d : ℕ) (t : Node Span) → At 27 t → Judged WordHere (a_type d t)
  unfolding a_type
  type-so d t h = bind (a_text t) _ (text-so 27 t h) λ w q. tested TYPE (fits_over d (listed logicals w.letters)) _ tt λ e. passes w q

  raw-so : (t : Node Span) → At 27 t → Judged Any (raw t)
  unfolding raw
  raw-so t h = bind (a_word t) _ (word-so 27 t h) λ w q. test ENCODING (same (ascii "raw") w.letters) tt

  record ComponentFieldsAt (t : Node Span) (c : ComponentFields Span) : Type 0 where
    map : AttributesStand L file start 28 t
    dtype : IfAny (At 27) c.dtype
    type : IfAny (At 27) c.type
    offset : IfAny (At 27) c.offset
    length : IfAny (At 27) c.length
    size : IfAny (At 27) c.uncompressed-length
    encoding : IfAny (At 27) c.encoding
    digest : IfAny (At 27) c.digest

  component_fields-so : (t : Node Span) → At 28 t → Judged (ComponentFieldsAt t) (component_fields L.component t)
  unfolding component_fields
  component_fields-so t h = bind (fields L.component t) _ (fields-so 28 L.component t h) λ ps q. passes _ (record {
    map = record { stands = h.0; pairs = ps; map = q.0 };
    dtype = field-so 27 _ ps q.1;
    type = field-so 27 _ ps q.1;
    offset = field-so 27 _ ps q.1;
    length = field-so 27 _ ps q.1;
    size = field-so 27 _ ps q.1;
    encoding = field-so 27 _ ps q.1;
    digest = field-so 27 _ ps q.1;
  })

  -- all but the verdict itself
  record Found (n : Named Span) (c : Component Span) : Type 0 where
    named : n.name ≡ c.name
    noted : c.entry ≡ note_of n.value
    map : AttributesStand L file start 28 n.value
    name : WordHere c.name
    storage : c.dtype < 13
    type : IfAny WordHere c.type
    digest : IfAny WordHere c.digest
    blob : BlobLies start c

  found-so : (above : Option ℕ) → Stored above → (n : Named Span) → Naming 28 n → Judged (Found n) (component L start above n)
  unfolding component
  found-so above given n h =
      bind (component_fields L.component n.value) _ (component_fields-so n.value h.1) λ c p.
      bind (required_in (slot dtype_at L.component) c.dtype) _ (required-in (slot dtype_at L.component) c.dtype p.dtype) λ dtype at-dtype.
      bind (required c.offset) _ (is-required c.offset p.offset) λ offset at_offset.
      bind (required c.length) _ (is-required c.length p.length) λ length at_length.
      bind (optional (a_dtype L) dtype) _ (if-any (a_dtype L) dtype at-dtype (dtype-so 27)) λ own stored.
      bind (required (or_else own above)) _ (is-required (or_else own above) (or_else-so own above stored given)) λ d storage.
      bind (optional (a_type d) (present c.type)) _ (if-any (a_type d) (present c.type) (present-so 27 c.type p.type) (type-so d)) λ t type.
      bind (a_number offset) _ (number-so offset) λ o u.
      bind (a_number length) _ (number-so length) λ l v.
      then (optional a_number (present c.uncompressed-length)) _ (if-any a_number (present c.uncompressed-length) (present-so 27 c.uncompressed-length p.size) (λ t a. number-so t))
      (then (optional raw c.encoding) _ (if-any raw c.encoding p.encoding raw-so)
      (bind (optional a_text (present c.digest)) _ (if-any a_text (present c.digest) (present-so 27 c.digest p.digest) (text-so 27)) λ g digest.
      tested ALIGN (eqb (o % alignment) 0) _ tt λ even. tested BOUNDS (leb alignment o && leb (o + l) start) _ tt λ inside.
      passes _ (record {
        named = refl;
        noted = refl;
        map = p.map;
        name = h.0;
        storage = storage;
        type = type;
        digest = digest;
        blob = record {
          aligned = eqb-true (o % alignment) 0 even;
          past-header = leb-true alignment o (both_left (leb alignment o) (leb (o + l) start) inside);
          before-manifest = leb-true (o + l) start (both_right (leb alignment o) (leb (o + l) start) inside);
        };
      })))

  -- of the code that an object gives to a component: an object that can have no dtype gives none
  record Given (above : Option ℕ) : Type 0 where
    stored : Stored above
    ungiven : slot dtype_at L.object ≡ none → above ≡ none

  component-so : (above : Option ℕ) → Given above → (n : Named Span) → Naming 28 n → Judged (ComponentAccepted L file start) (component L start above n)
  component-so above given n h = so-too (component L start above n) accepted (with-verdict (component L start above n) (found-so above given.stored n h))
    where
      accepted : (c : Component Span) → (component L start above n ≡ pass c) × Found n c → ComponentAccepted L file start c
      accepted c q =
          let f = q.1 in
          record {
            name = f.name;
            dtype = let d = f.storage in omega (arith, d, thirteen);
            type = f.type;
            digest = f.digest;
            part = record {
              blob = f.blob;
              entry = record {
                node = n.value;
                noted = f.noted;
                stands = f.map;
                above = above;
                ungiven = given.ungiven;
                judged = ap (λ (w : Word Span). component L start above (record { name = w; value = n.value })) (sym f.named) ∙ q.0;
              };
            };
          }

  components-so : (above : List ℕ → Option ℕ) → ((role : List ℕ) → Given (above role)) → (t : Node Span) → At 29 t → Judged (Every (ComponentAccepted L file start)) (components_of L start above t)
  unfolding components_of
  components-so above given t h =
      bind (names component_limit t) _ (names-so 29 component_limit t h)
      λ ns q. each-so (λ j c. in_component j (component L start (above c.name.letters) c)) (λ j c a. in-component j (component L start (above c.name.letters) c) (component-so (above c.name.letters) (given c.name.letters) c a)) 0 ns q

  -- ---- objects: their fields have 29 levels left

  shape-so : (t : Node Span) → Judged (λ (s : List ℕ). length s ≤ 8) (shape_of t)
  unfolding shape_of a_list
  shape-so t =
      bind (as_list (kind t)) _ (as_list-so (kind t)) λ dims u.
      bind (each (λ i. a_number) 0 dims) _ (each-so (λ i. a_number) (λ i a v. number-so a) 0 dims (any-each dims)) λ s v.
      tested COUNT (leb (length s) 8) _ tt λ e. passes s (leb-true (length s) 8 e)

  pub attributes-so : (d : ℕ) (t : Node Span) → At d t → Judged (AttributesStand L file start d) (attributes_of t)
  unfolding attributes_of
  attributes-so d t h = by (a_mapping t) refl (table-so d t h)
    where
      by : (k : Check (List (Pair Span))) → a_mapping t ≡ k → Judged (Every (Pairing (less d))) k → Judged (AttributesStand L file start d) (k >> pass t)
      by (pass ps) e j = passes t (record { stands = h.0; pairs = ps; map = e })
      by (refuse n o c) e j = record { is = j.is }

  record ObjectFieldsAt (o : ObjectFields Span) : Type 0 where
    dtype : IfAny (At 29) o.dtype
    ungiven : slot dtype_at L.object ≡ none → o.dtype ≡ none
    shape : IfAny (At 29) o.shape
    format : IfAny (At 29) o.format
    attributes : IfAny (At 29) o.attributes
    components : IfAny (At 29) o.components

  object_fields-so : (t : Node Span) → At 30 t → Judged ObjectFieldsAt (object_fields L.object t)
  unfolding object_fields
  object_fields-so t h =
      bind (fields L.object t) _ (fields-so 30 L.object t h)
      λ ps q. passes _ (record {
        dtype = field-so 29 _ ps q.1;
        ungiven = λ e. no_field (slot dtype_at L.object) ps e;
        shape = field-so 29 _ ps q.1;
        format = field-so 29 _ ps q.1;
        attributes = field-so 29 _ ps q.1;
        components = field-so 29 _ ps q.1;
      })

  pub object-so : (n : Named Span) → Naming 30 n → Judged (ObjectAccepted L file start) (object L start n)
  unfolding object inherited
  object-so n h =
      bind (object_fields L.object n.value) _ (object_fields-so n.value h.1) λ o p.
      let place : Option (List ℕ) = slot dtype_at L.object in
      bind (required_in place o.dtype) _ (with-verdict (required_in place o.dtype) (required-in place o.dtype p.dtype)) λ dtype at-dtype.
      bind (required o.shape) _ (is-required o.shape p.shape) λ shape at-shape.
      bind (required o.format) _ (is-required o.format p.format) λ format at-format.
      bind (required o.components) _ (is-required o.components p.components) λ components at-components.
      bind (optional (a_dtype L) dtype) _ (with-verdict (optional (a_dtype L) dtype) (if-any (a_dtype L) dtype at-dtype.1 (dtype-so 29))) λ d code.
      let ungiven : place ≡ none → d ≡ none = λ e. absent (a_dtype L) dtype d code.0 (absent-in place o.dtype dtype at-dtype.0 e (p.ungiven e)) in
      bind (shape_of shape) _ (shape-so shape) λ s rank.
      bind (a_text format) _ (text-so 29 format at-format) λ f text.
      bind (optional attributes_of o.attributes) _ (if-any attributes_of o.attributes p.attributes (attributes-so 29)) λ a lie.
      bind (components_of L start (inherited f.letters d) components) _
      (components-so (inherited f.letters d) (λ role. record { stored = inherited-so f.letters d role code.1; ungiven = λ e. ap (λ (d : Option ℕ). inherited f.letters d role) (ungiven e) }) components at-components) λ cs accepted.
      then (format_rules f.letters s (map part cs)) _ (format-so f.letters s (map part cs))
      (passes _ (record { name = h.0; rank = rank; format = text; attributes = lie; components = accepted }))

  objects-so : (t : Node Span) → At 31 t → Judged (Every (ObjectAccepted L file start)) (objects_of L start t)
  unfolding objects_of
  objects-so t h =
      bind (names object_limit t) _ (names-so 31 object_limit t h)
      λ ns q. each-so (λ i o. in_object i (object L start o)) (λ i o a. in-object i (object L start o) (object-so o a)) 0 ns q

  -- ---- the root: its fields have 31 levels left

  pub version-so : (t : Node Span) → At 31 t → Judged Any (a_version t)
  unfolding a_version
  version-so t h = bind (a_word t) _ (word-so 31 t h) λ v q. tested VERSION (version_shape v.letters) _ tt λ e. test MAJOR (major_one v.letters) tt

  pub record RootFieldsAt (r : RootFields Span) : Type 0 where
    pub version : IfAny (At 31) r.version
    pub attributes : IfAny (At 31) r.attributes
    pub objects : IfAny (At 31) r.objects

  pub root_fields-so : (t : Node Span) → At 32 t → Judged RootFieldsAt (root_fields L.root t)
  unfolding root_fields
  root_fields-so t h =
      bind (fields L.root t) _ (fields-so 32 L.root t h) λ ps q. passes _ (record { version = field-so 31 _ ps q.1; attributes = field-so 31 _ ps q.1; objects = field-so 31 _ ps q.1 })

  pub judge-so : (t : Node Span) → At 32 t → Judged (ModelAccepted L file start) (judge L start t)
  unfolding judge
  judge-so t h =
      bind (root_fields L.root t) _ (root_fields-so t h) λ r p.
      bind (required r.version) _ (is-required r.version p.version) λ version at-version.
      then (a_version version) _ (version-so version at-version)
      (bind (optional attributes_of r.attributes) _ (if-any attributes_of r.attributes p.attributes (attributes-so 31)) λ a lie.
      bind (required r.objects) _ (is-required r.objects p.objects) λ objects at-objects.
      bind (objects_of L start objects) _ (objects-so objects at-objects) λ os accepted.
      passes _ (record { attributes = lie; objects = accepted }))

  -- ---- the entries of its components have 28 levels left

  pairs-in-so : (d : ℕ) (t : Node Span) → At d t → Every (Pairing (less d)) (pairs_in t)
  unfolding pairs_in pairs_or
  pairs-in-so d t h = by (a_mapping t) (table-so d t h)
    where
      by : (k : Check (List (Pair Span))) → Judged (Every (Pairing (less d))) k → Every (Pairing (less d)) (pairs_or k)
      by (pass ps) j = j.is
      by (refuse n o c) j = tt

  values-so : (d : ℕ) (o : Option (Node Span)) → IfAny (At d) o → Every (At (less d)) (values_in o)
  unfolding values_in
  values-so d none h = tt
  values-so d (some t) h = by (pairs_in t) (pairs-in-so d t h)
    where
      by : (ps : List (Pair Span)) → Every (Pairing (less d)) ps → Every (At (less d)) (map (λ p. p.value) ps)
      by [] h = tt
      by (p ∷ ps) h = (h.0.1, by ps h.1)

  entries-in-so : (t : Node Span) → At 30 t → Every (At 28) (entries_in L t)
  unfolding entries_in
  entries-in-so t h = values-so 29 (field (slot components_at L.object) (pairs_in t)) (field-so 29 (slot components_at L.object) (pairs_in t) (pairs-in-so 30 t h))

  pub entries-so : (t : Node Span) → At 32 t → Every (Every (At 28)) (entries_of L t)
  unfolding entries_of
  entries-so t h = by (values_in objects) (values-so 31 objects (field-so 31 (slot objects_at L.root) (pairs_in t) (pairs-in-so 32 t h)))
    where
      objects : Option (Node Span)
      objects = field (slot objects_at L.root) (pairs_in t)

      by : (ts : List (Node Span)) → Every (At 30) ts → Every (Every (At 28)) (map (entries_in L) ts)
      by [] h = tt
      by (o ∷ ts) h = (entries-in-so o h.0, by ts h.1)
