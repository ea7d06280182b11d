-- A small tree that is judged sound gives a model whose dimensions are below 2 ^ 64, and its counts are within the limits.
use Prim.Native.Nat.{ℕ, ◌+◌, ◌≤◌}
use mathlib.Core.List.{List, [], ◌∷◌, map}
use mathlib.Core.Bool.{Bool, true, false, cond}
use mathlib.Core.Option.{Option, none, some}
use mathlib.Core.Path.{◌≡◌, refl, sym, subst}
use lib.ListN.{length, take, drop}
use lib.Dec.{eqb, leb}
use borrow.Author.Tests.{leb-true}
use Rattle.meaning.specs.Tree.{Node, Nodes, Pairs, uint, nint, bytes, text, chunked_bytes, chunked_text, array, dict, tag, simple, float, ε, ◌▸◌, ∅, ◌⇒◌▸◌, Pair, node_list, pair_list}
use Rattle.meaning.specs.Check.{Check, pass, refuse, in_object, in_component, required, required_in, optional, each}
use Rattle.meaning.specs.Text.{all, distinct, utf8}
use Rattle.meaning.specs.Refusal.{KEY, TEXT, TWICE, COUNT}
use Rattle.meaning.specs.Limit.{object_limit, component_limit, rank_limit}
use Rattle.meaning.specs.Read.{Span, span_to, Outcome, got, refused, manifest}
use Rattle.meaning.specs.Model.{Named, Component, Object, RootFields, ObjectFields}
use Rattle.meaning.specs.Kind.{Kind, number, words, list, mapping, null, another, kind, as_number, as_list, as_mapping, a_number, a_list, a_mapping, a_text}
use Rattle.meaning.specs.Layouts.{Slots, slot, somes, Layout, dtype_at}
use Rattle.meaning.specs.Field.{is_some, key_of, count, named, get, field, fields, root_fields, object_fields, name_kind, name_of, names}
use Rattle.meaning.specs.Format.{format_rules}
use Rattle.meaning.specs.Judge.{inherited, a_dtype, attributes_of, component, part, shape_of, components_of, object, a_version, objects_of, judge}
use Rattle.meaning.specs.Frame.{frame, checked, Reading, reading}
use Rattle.meaning.specs.Encoding.{Bytes}
use Rattle.meaning.specs.Every.{IfAny, Every}
use Rattle.readback.specs.Fine.{Fits}
use Rattle.shown.proofs.AcceptsExactly.{bytes_take, bytes_drop}
use Rattle.roundtrip.specs.Sized.{SizedObject, Sized}
use Rattle.roundtrip.specs.Small.{Small, SmallNodes, SmallPairs}
use Rattle.roundtrip.proofs.If.{Any, If, passes, anyhow, in-object, is-required, bind, then, tested, each-so, any-every}
use Rattle.roundtrip.proofs.ReadSmall.{manifest-small}

-- as long as a list within the limit
within : {A B : Type 0} (limit : ℕ) (l : List A) (m : List B) → length m ≡ length l → length l ≤ limit → length m ≤ limit
within limit l m e h = subst (λ (n : ℕ). n ≤ limit) (sym e) h

module _ {P : Type 0} where
  abbrev SmallValue : Pair P → Type 0
  SmallValue p = Small p.value

  abbrev pub SmallNamed : Named P → Type 0
  SmallNamed n = Small n.value

  abbrev Kinds : Kind P → Type 0
  Kinds (number n) = Fits n
  Kinds (words w) = Unit {0}
  Kinds (list l) = Every Small l
  Kinds (mapping ps) = Every SmallValue ps
  Kinds null = Unit {0}
  Kinds another = Unit {0}

  nodes-so : (ns : Nodes P) → SmallNodes ns → Every Small (node_list ns)
  nodes-so ε h = tt
  nodes-so (◌▸◌ n ns) h = (h.0, nodes-so ns h.1)

  pairs-so : (ps : Pairs P) → SmallPairs ps → Every SmallValue (pair_list ps)
  pairs-so ∅ h = tt
  pairs-so (◌⇒◌▸◌ k v ps) h = (h.0, pairs-so ps h.1)

  kind-so : (t : Node P) → Small t → Kinds (kind t)
  unfolding kind
  kind-so (uint p n) h = h
  kind-so (nint p n) h = tt
  kind-so (bytes p bs) h = tt
  kind-so (text p bs) h = tt
  kind-so (chunked_bytes p bs) h = tt
  kind-so (chunked_text p bs) h = tt
  kind-so (array p ns) h = nodes-so ns h
  kind-so (dict p ps) h = pairs-so ps h
  kind-so (tag p n t) h = tt
  kind-so (simple p n) h = either (eqb n 22)
    where
      either : (b : Bool) → Kinds (cond b null another)
      either true = tt
      either false = tt
  kind-so (float p w b) h = tt

  as_number-so : (k : Kind P) → Kinds k → If Fits (as_number k)
  unfolding as_number
  as_number-so (number n) h = passes n h
  as_number-so (words w) h = record { is = tt }
  as_number-so (list l) h = record { is = tt }
  as_number-so (mapping l) h = record { is = tt }
  as_number-so null h = record { is = tt }
  as_number-so another h = record { is = tt }

  as_list-so : (k : Kind P) → Kinds k → If (Every Small) (as_list k)
  unfolding as_list
  as_list-so (number n) h = record { is = tt }
  as_list-so (words w) h = record { is = tt }
  as_list-so (list l) h = passes l h
  as_list-so (mapping l) h = record { is = tt }
  as_list-so null h = record { is = tt }
  as_list-so another h = record { is = tt }

  as_table-so : (k : Kind P) → Kinds k → If (Every SmallValue) (as_mapping k)
  unfolding as_mapping
  as_table-so (number n) h = record { is = tt }
  as_table-so (words w) h = record { is = tt }
  as_table-so (list l) h = record { is = tt }
  as_table-so (mapping l) h = passes l h
  as_table-so null h = record { is = tt }
  as_table-so another h = record { is = tt }

  name_kind-so : (v : Node P) (k : Kind P) → Small v → If SmallNamed (name_kind v k)
  unfolding name_kind
  name_kind-so v (number n) a = record { is = tt }
  name_kind-so v (words w) a = passes (record { name = w; value = v }) a
  name_kind-so v (list l) a = record { is = tt }
  name_kind-so v (mapping l) a = record { is = tt }
  name_kind-so v null a = record { is = tt }
  name_kind-so v another a = record { is = tt }

  table-so : (t : Node P) → Small t → If (Every SmallValue) (a_mapping t)
  unfolding a_mapping
  table-so t h = as_table-so (kind t) (kind-so t h)

  get-so : (n : List ℕ) (ps : List (Pair P)) → Every SmallValue ps → IfAny Small (get n ps)
  unfolding get
  get-so n [] h = tt
  get-so n (p ∷ ps) (h, hs) = by (named n p) (get n ps) (get-so n ps hs)
    where
      by : (b : Bool) (r : Option (Node P)) → IfAny Small r → IfAny Small (cond b (some p.value) r)
      by true r q = h
      by false r q = q

  field-so : (s : Option (List ℕ)) (ps : List (Pair P)) → Every SmallValue ps → IfAny Small (field s ps)
  unfolding field
  field-so none ps h = tt
  field-so (some n) ps h = get-so n ps h

  fields-so : (known : Slots) (t : Node P) → Small t → If (Every SmallValue) (fields known t)
  unfolding fields
  fields-so known t h =
      bind (a_mapping t) _ (table-so t h) λ ps q.
      tested KEY (all (λ p. is_some (key_of p)) ps) _ λ e. tested TWICE (all (λ n. leb (count n ps) 1) (somes known)) _ λ f. passes ps q

  abbrev pub Names : ℕ → List (Named P) → Type 0
  Names limit ns = Every SmallNamed ns × (length ns ≤ limit)

  pub names-so : (limit : ℕ) (t : Node P) → Small t → If (Names limit) (names limit t)
  unfolding names name_of
  names-so limit t h =
      bind (a_mapping t) _ (table-so t h) λ ps q.
      bind (each (λ i. name_of) 0 ps) _ (each-so (λ i. name_of) (λ i p a. name_kind-so p.value (kind p.key) a) 0 ps q) λ ns r.
      tested TEXT (all (λ n. utf8 n.name.letters) ns) _ λ e.
      tested COUNT (leb (length ns) limit) _ λ f.
      tested TWICE (distinct (map (λ n. n.name.letters) ns)) _ λ g. passes ns (r.0, leb-true (length ns) limit f)

  shape-so : (t : Node P) → Small t → If (Every Fits) (shape_of t)
  unfolding shape_of a_list a_number
  shape-so t h =
      bind (as_list (kind t)) _ (as_list-so (kind t) (kind-so t h)) λ dims u.
      bind (each (λ i. a_number) 0 dims) _ (each-so (λ i. a_number) (λ i a v. as_number-so (kind a) (kind-so a v)) 0 dims u) λ s v.
      tested COUNT (leb (length s) rank_limit) _ λ e. passes s v.0

  components-so : (L : Layout) (start : ℕ) (above : List ℕ → Option ℕ) (t : Node P) → Small t → If (λ (cs : List (Component P)). length cs ≤ component_limit) (components_of L start above t)
  unfolding components_of
  components-so L start above t h =
      bind (names component_limit t) _ (names-so component_limit t h) λ ns q.
      bound ns q.1 (each one 0 ns)
      (each-so {Q = Any} {R = Any} one (λ j c a. anyhow (one j c)) 0 ns (any-every ns))
    where
      one : ℕ → Named P → Check (Component P)
      one j c = in_component j (component L start (above c.name.letters) c)

      bound : (ns : List (Named P)) → length ns ≤ component_limit → (k : Check (List (Component P)))
          → If (λ (cs : List (Component P)). Every Any cs × (length cs ≡ length ns)) k → If (λ (cs : List (Component P)). length cs ≤ component_limit) k
      bound ns l (pass cs) h = passes cs (within component_limit ns cs h.is.1 l)
      bound ns l (refuse n o c) h = record { is = tt }

  record ObjectFieldsSo (o : ObjectFields P) : Type 0 where
    shape : IfAny Small o.shape
    components : IfAny Small o.components

  object_fields-so : (known : Slots) (t : Node P) → Small t → If ObjectFieldsSo (object_fields known t)
  unfolding object_fields
  object_fields-so known t h = bind (fields known t) _ (fields-so known t h) λ ps q. passes _ (record { shape = field-so _ ps q; components = field-so _ ps q })

  pub object-so : (L : Layout) (start : ℕ) (n : Named P) → SmallNamed n → If SizedObject (object L start n)
  unfolding object
  object-so L start n h =
      bind (object_fields L.object n.value) _ (object_fields-so L.object n.value h) λ o p.
      bind (required_in (slot dtype_at L.object) o.dtype) _ (anyhow (required_in (slot dtype_at L.object) o.dtype)) λ dtype x.
      bind (required o.shape) _ (is-required o.shape p.shape) λ shape at-shape.
      bind (required o.format) _ (anyhow (required o.format)) λ format u.
      bind (required o.components) _ (is-required o.components p.components) λ components at-components.
      bind (optional (a_dtype L) dtype) _ (anyhow (optional (a_dtype L) dtype)) λ d y.
      bind (shape_of shape) _ (shape-so shape at-shape) λ s fits.
      bind (a_text format) _ (anyhow (a_text format)) λ f v.
      bind (optional attributes_of o.attributes) _ (anyhow (optional attributes_of o.attributes)) λ a w.
      bind (components_of L start (inherited f.letters d) components) _ (components-so L start (inherited f.letters d) components at-components) λ cs few.
      then (format_rules f.letters s (map part cs)) _ (passes _ (record { shape = fits; count = few }))

  objects-so : (L : Layout) (start : ℕ) (t : Node P) → Small t → If (λ (os : List (Object P)). Every SizedObject os × (length os ≤ object_limit)) (objects_of L start t)
  unfolding objects_of
  objects-so L start t h =
      bind (names object_limit t) _ (names-so object_limit t h) λ ns q.
      bound ns q.1 (each (λ i o. in_object i (object L start o)) 0 ns)
      (each-so (λ i o. in_object i (object L start o)) (λ i o a. in-object i (object L start o) (object-so L start o a)) 0 ns q.0)
    where
      bound : (ns : List (Named P)) → length ns ≤ object_limit → (k : Check (List (Object P)))
          → If (λ (os : List (Object P)). Every SizedObject os × (length os ≡ length ns)) k → If (λ (os : List (Object P)). Every SizedObject os × (length os ≤ object_limit)) k
      bound ns l (pass os) h = passes os (h.is.0, within object_limit ns os h.is.1 l)
      bound ns l (refuse n o c) h = record { is = tt }

  pub root_objects-so : (known : Slots) (t : Node P) → Small t → If (λ (r : RootFields P). IfAny Small r.objects) (root_fields known t)
  unfolding root_fields
  root_objects-so known t h = bind (fields known t) _ (fields-so known t h) λ ps q. passes _ (field-so _ ps q)

  judge-sized : (L : Layout) (start : ℕ) (t : Node P) → Small t → If Sized (judge L start t)
  unfolding judge
  judge-sized L start t h =
      bind (root_fields L.root t) _ (root_objects-so L.root t h) λ r p.
      bind (required r.version) _ (anyhow (required r.version)) λ version u.
      then (a_version version) _
      (bind (optional attributes_of r.attributes) _ (anyhow (optional attributes_of r.attributes)) λ a v.
      bind (required r.objects) _ (is-required r.objects p) λ objects at-objects.
      bind (objects_of L start objects) _ (objects-so L start objects at-objects) λ os q.
      passes _ (record { count = q.1; objects = q.0 }))

pub checked-small : (note : List ℕ → List ℕ → Span) (s : List ℕ) → Bytes s → If Small (checked (manifest note s))
unfolding checked
checked-small note s h = go (manifest note s) refl
  where
    go : (o : Outcome (Node Span)) → manifest note s ≡ o → If Small (checked o)
    go (got t r) e = passes t (manifest-small note s t r h e)
    go (refused n r) e = record { is = tt }

pub reading-sized : (L : Layout) (file : List ℕ) → Bytes file → If (λ (r : Reading). Sized r.model) (reading L file)
unfolding reading
reading-sized L file h =
    bind (frame L file) _ (anyhow (frame L file)) λ f u.
    bind (checked (manifest (span_to (f.start + f.size)) (take f.size (drop f.start file)))) _
    (checked-small (span_to (f.start + f.size)) (take f.size (drop f.start file)) (bytes_take f.size (drop f.start file) (bytes_drop f.start file h))) λ t small.
    bind (judge L f.start t) _ (judge-sized L f.start t small) λ m s.
    passes _ s
