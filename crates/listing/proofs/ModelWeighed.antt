-- The names and formats of a model that was judged sound weigh no more than the tree that it was taken from: each is another text of the tree.
use Prim.Native.Nat.{ℕ, suc, ◌+◌, ◌%◌, ◌≤◌}
use native.Mathlib.Omega.{arith}
use mathlib.Core.List.{List, [], ◌∷◌, map}
use mathlib.Core.Bool.{Bool, true, false, cond, ◌&&◌}
use mathlib.Core.Option.{Option, none, some}
use mathlib.Core.Path.{◌≡◌, refl, sym, ap, subst, ◌∙◌}
use lib.ListN.{length, take, drop, length-take, length-drop}
use lib.Dec.{eqb, leb}
use Rattle.meaning.specs.Tree.{Node, Pairs, Pair, uint, nint, bytes, text, chunked_bytes, chunked_text, array, dict, tag, simple, float, ∅, ◌⇒◌▸◌, pair_list}
use Rattle.meaning.specs.Check.{Check, pass, refuse, in_object, in_component, required, required_in, optional, each}
use Rattle.meaning.specs.Text.{ascii, same, all, distinct, utf8}
use Rattle.meaning.specs.Refusal.{KEY, TEXT, TWICE, COUNT, ALIGN, BOUNDS}
use Rattle.meaning.specs.Limit.{object_limit, component_limit, alignment}
use Rattle.meaning.specs.Read.{Span, span_to, Outcome, got, refused, manifest}
use Rattle.meaning.specs.Model.{Word, Named, Component, RootFields, ObjectFields}
use Rattle.meaning.specs.Kind.{Kind, number, words, list, mapping, null, another, kind, as_word, as_mapping, a_number, a_word, a_mapping, a_text, present}
use Rattle.meaning.specs.Layouts.{Slots, slot, somes, current, dtype_at}
use Rattle.meaning.specs.Field.{is_some, is_key, key_of, count, named, get, field, fields, root_fields, object_fields, component_fields, name_kind, name_of, names}
use Rattle.meaning.specs.Format.{format_rules}
use Rattle.meaning.specs.Judge.{or_else, inherited, a_dtype, a_type, raw, attributes_of, component, part, shape_of, components_of, object, a_version, objects_of, judge}
use Rattle.meaning.specs.Frame.{frame, checked, Reading, reading}
use Rattle.meaning.proofs.SameText.{same-eq}
use Rattle.roundtrip.proofs.If.{If, passes, anyhow, in-object, bind, then, tested}
use Rattle.listing.specs.Weight.{sum_of, weight, weight_of_pairs, pair_weight, named_weight, component_weight, object_weight, model_weight}
use Rattle.listing.proofs.Weighed.{Got, manifest-light}

-- ---- a check of each, and what all weigh together

module _ {A B : Type 0} (v : A → ℕ) (w : B → ℕ) (f : ℕ → A → Check B) (g : (i : ℕ) (a : A) → If (λ (b : B). w b ≤ v a) (f i a)) where
  each-weighs : (i : ℕ) (l : List A) → If (λ (bs : List B). sum_of w bs ≤ sum_of v l) (each f i l)
  each-weighs i [] = passes [] (omega arith)
  each-weighs i (a ∷ l) = bind (f i a) _ (g i a) λ b p. bind (each f (suc i) l) _ (each-weighs (suc i) l) λ bs q. passes (b ∷ bs) (omega (arith, p, q))

-- no more than n
abbrev Within : {A : Type 0} → (A → ℕ) → ℕ → A → Type 0
Within w n a = w a ≤ n

lighter : {A : Type 0} {w : A → ℕ} {n : ℕ} (m : ℕ) (k : Check A) → m ≤ n → If (Within w m) k → If (Within w n) k
lighter m (pass a) h l = let g = l.is in record { is = omega (arith, g, h) }
lighter m (refuse n o c) h l = record { is = tt }

in-component : {A : Type 0} {Q : A → Type 0} (i : ℕ) (k : Check A) → If Q k → If Q (in_component i k)
in-component i (pass a) h = record { is = h.is }
in-component i (refuse n o c) h = record { is = tt }

-- ---- two known fields are two pairs

one_key : (n k : List ℕ) → same k n ≡ false → (o : Option (List ℕ)) → is_key n o ≡ true → is_key k o ≡ false
unfolding is_key
one_key n k d none h = refl
one_key n k d (some x) h = subst (λ (y : List ℕ). same k y ≡ false) (same-eq n x h) d

module _ {P : Type 0} where
  abbrev option_weight : Option (Node P) → ℕ
  option_weight none = 0
  option_weight (some t) = weight t

  get-one : (n : List ℕ) (ps : List (Pair P)) → option_weight (get n ps) ≤ sum_of pair_weight ps
  unfolding get
  get-one n [] = omega arith
  get-one n (p ∷ ps) = by (named n p) (get n ps) (get-one n ps)
    where
      by : (b : Bool) (r : Option (Node P)) → option_weight r ≤ sum_of pair_weight ps → option_weight (cond b (some p.value) r) ≤ sum_of pair_weight (p ∷ ps)
      by true r h = omega arith
      by false r h = omega (arith, h)

  get-two : (n k : List ℕ) → same k n ≡ false → (ps : List (Pair P)) → option_weight (get n ps) + option_weight (get k ps) ≤ sum_of pair_weight ps
  unfolding get named
  get-two n k d [] = omega arith
  get-two n k d (p ∷ ps) = by (named n p) refl (named k p) refl (get n ps) (get k ps) (get-two n k d ps)
    where
      false-not : true ≡ false → ⊥
      false-not e = let z : ◌≡◌ {A = ℕ} 0 1 = cc in omega arith

      by : (b : Bool) → named n p ≡ b → (c : Bool) → named k p ≡ c → (q r : Option (Node P)) → option_weight q + option_weight r ≤ sum_of pair_weight ps
          → option_weight (cond b (some p.value) q) + option_weight (cond c (some p.value) r) ≤ sum_of pair_weight (p ∷ ps)
      by true e true f q r h = absurd (false-not (sym f ∙ one_key n k d (key_of p) e))
      by true e false f q r h = omega (arith, h)
      by false e true f q r h = omega (arith, h)
      by false e false f q r h = omega (arith, h)

  taken : (o : Option (Node P)) → If (λ (t : Node P). weight t ≡ option_weight o) (required o)
  taken none = record { is = tt }
  taken (some t) = passes t refl

  -- ---- kinds

  abbrev kind_weight : Kind P → ℕ
  kind_weight (number n) = 0
  kind_weight (words w) = length w.letters
  kind_weight (list l) = 0
  kind_weight (mapping ps) = sum_of pair_weight ps
  kind_weight null = 0
  kind_weight another = 0

  pairs-listed : (ps : Pairs P) → sum_of pair_weight (pair_list ps) ≡ weight_of_pairs ps
  pairs-listed ∅ = refl
  pairs-listed (◌⇒◌▸◌ k v ps) = ap (λ (n : ℕ). weight k + weight v + n) (pairs-listed ps)

  kind-weighs : (t : Node P) → kind_weight (kind t) ≤ weight t
  unfolding kind
  kind-weighs (uint p n) = omega arith
  kind-weighs (nint p n) = omega arith
  kind-weighs (bytes p bs) = omega arith
  kind-weighs (text p bs) = omega arith
  kind-weighs (chunked_bytes p bs) = omega arith
  kind-weighs (chunked_text p bs) = omega arith
  kind-weighs (array p ns) = omega arith
  kind-weighs (dict p ps) = let e = pairs-listed ps in omega (arith, e)
  kind-weighs (tag p n t) = omega arith
  kind-weighs (simple p n) = either (eqb n 22)
    where
      either : (b : Bool) → kind_weight (cond b null another) ≤ 0
      either true = omega arith
      either false = omega arith
  kind-weighs (float p w b) = omega arith

  abbrev word_weight : Word P → ℕ
  word_weight w = length w.letters

  word-weighs : (t : Node P) → If (Within word_weight (weight t)) (a_word t)
  unfolding a_word as_word
  word-weighs t = by (kind t) (kind-weighs t)
    where
      by : (k : Kind P) → kind_weight k ≤ weight t → If (Within word_weight (weight t)) (as_word k)
      by (number n) h = record { is = tt }
      by (words w) h = passes w h
      by (list l) h = record { is = tt }
      by (mapping ps) h = record { is = tt }
      by null h = record { is = tt }
      by another h = record { is = tt }

  table-weighs : (t : Node P) → If (Within (sum_of pair_weight) (weight t)) (a_mapping t)
  unfolding a_mapping as_mapping
  table-weighs t = by (kind t) (kind-weighs t)
    where
      by : (k : Kind P) → kind_weight k ≤ weight t → If (Within (sum_of pair_weight) (weight t)) (as_mapping k)
      by (number n) h = record { is = tt }
      by (words w) h = record { is = tt }
      by (list l) h = record { is = tt }
      by (mapping ps) h = passes ps h
      by null h = record { is = tt }
      by another h = record { is = tt }

  text-weighs : (t : Node P) → If (Within word_weight (weight t)) (a_text t)
  unfolding a_text
  text-weighs t = bind (a_word t) _ (word-weighs t) λ w h. tested TEXT (utf8 w.letters) _ λ e. passes w h

  -- ---- maps

  fields-weigh : (known : Slots) (t : Node P) → If (Within (sum_of pair_weight) (weight t)) (fields known t)
  unfolding fields
  fields-weigh known t =
      bind (a_mapping t) _ (table-weighs t) λ ps q.
      tested KEY (all (λ p. is_some (key_of p)) ps) _ λ e. tested TWICE (all (λ n. leb (count n ps) 1) (somes known)) _ λ f. passes ps q

  name-weighs : (p : Pair P) → If (Within named_weight (pair_weight p)) (name_of p)
  unfolding name_of name_kind
  name-weighs p = by (kind p.key) (kind-weighs p.key)
    where
      by : (k : Kind P) → kind_weight k ≤ weight p.key → If (Within named_weight (pair_weight p)) (name_kind p.value k)
      by (number n) h = record { is = tt }
      by (words w) h = passes _ (omega (arith, h))
      by (list l) h = record { is = tt }
      by (mapping ps) h = record { is = tt }
      by null h = record { is = tt }
      by another h = record { is = tt }

  names-weigh : (limit : ℕ) (t : Node P) → If (Within (sum_of named_weight) (weight t)) (names limit t)
  unfolding names
  names-weigh limit t =
      bind (a_mapping t) _ (table-weighs t) λ ps q.
      bind (each (λ i. name_of) 0 ps) _ (each-weighs pair_weight named_weight (λ i. name_of) (λ i p. name-weighs p) 0 ps) λ ns r.
      tested TEXT (all (λ n. utf8 n.name.letters) ns) _ λ e.
      tested COUNT (leb (length ns) limit) _ λ f.
      tested TWICE (distinct (map (λ n. n.name.letters) ns)) _ λ g. passes ns (omega (arith, q, r))

  component-weighs : (start : ℕ) (above : Option ℕ) (n : Named P) → If (Within component_weight (named_weight n)) (component current start above n)
  unfolding component
  component-weighs start above n =
      bind (component_fields current.component n.value) _ (anyhow (component_fields current.component n.value)) λ c u₁.
      bind (required_in (slot dtype_at current.component) c.dtype) _ (anyhow (required_in (slot dtype_at current.component) c.dtype)) λ dtype u₂.
      bind (required c.offset) _ (anyhow (required c.offset)) λ offset u₃.
      bind (required c.length) _ (anyhow (required c.length)) λ length u₄.
      bind (optional (a_dtype current) dtype) _ (anyhow (optional (a_dtype current) dtype)) λ own u₅.
      bind (required (or_else own above)) _ (anyhow (required (or_else own above))) λ d u₀.
      bind (optional (a_type d) (present c.type)) _ (anyhow (optional (a_type d) (present c.type))) λ t u₆.
      bind (a_number offset) _ (anyhow (a_number offset)) λ o u₇.
      bind (a_number length) _ (anyhow (a_number length)) λ l u₈.
      then (optional a_number (present c.uncompressed-length)) _
      (then (optional raw c.encoding) _
      (bind (optional a_text (present c.digest)) _ (anyhow (optional a_text (present c.digest))) λ g u₉.
      tested ALIGN (eqb (o % alignment) 0) _ λ even. tested BOUNDS (leb alignment o && leb (o + l) start) _ λ inside. passes _ (omega arith)))

  components-weigh : (start : ℕ) (above : List ℕ → Option ℕ) (t : Node P) → If (Within (sum_of component_weight) (weight t)) (components_of current start above t)
  unfolding components_of
  components-weigh start above t =
      bind (names component_limit t) _ (names-weigh component_limit t) λ ns q.
      lighter (sum_of named_weight ns) (each (λ j c. in_component j (one c)) 0 ns) q
      (each-weighs named_weight component_weight (λ j c. in_component j (one c)) (λ j c. in-component j (one c) (component-weighs start (above c.name.letters) c)) 0 ns)
    where
      one : Named P → Check (Component P)
      one c = component current start (above c.name.letters) c

  record ObjectFieldsWeigh (v : Node P) (o : ObjectFields P) : Type 0 where
    both : option_weight o.format + option_weight o.components ≤ weight v

  object_fields-weigh : (v : Node P) → If (ObjectFieldsWeigh v) (object_fields current.object v)
  unfolding object_fields field current
  object_fields-weigh v =
      bind (fields current.object v) _ (fields-weigh current.object v) λ ps q.
      passes _ (record { both = let g = get-two (ascii "format") (ascii "components") refl ps in omega (arith, g, q) })

  object-weighs : (start : ℕ) (n : Named P) → If (Within object_weight (named_weight n)) (object current start n)
  unfolding object
  object-weighs start n =
      bind (object_fields current.object n.value) _ (object_fields-weigh n.value) λ o p.
      bind (required_in (slot dtype_at current.object) o.dtype) _ (anyhow (required_in (slot dtype_at current.object) o.dtype)) λ dtype u₄.
      bind (required o.shape) _ (anyhow (required o.shape)) λ shape u₁.
      bind (required o.format) _ (taken o.format) λ format at-format.
      bind (required o.components) _ (taken o.components) λ components at-components.
      bind (optional (a_dtype current) dtype) _ (anyhow (optional (a_dtype current) dtype)) λ d u₅.
      bind (shape_of shape) _ (anyhow (shape_of shape)) λ s u₂.
      bind (a_text format) _ (text-weighs format) λ f text.
      bind (optional attributes_of o.attributes) _ (anyhow (optional attributes_of o.attributes)) λ a u₃.
      bind (components_of current start (inherited f.letters d) components) _ (components-weigh start (inherited f.letters d) components) λ cs all.
      then (format_rules f.letters s (map part cs)) _ (passes _ (let b = p.both in omega (arith, b, at-format, at-components, text, all)))

  objects-weigh : (start : ℕ) (t : Node P) → If (Within (sum_of object_weight) (weight t)) (objects_of current start t)
  unfolding objects_of
  objects-weigh start t =
      bind (names object_limit t) _ (names-weigh object_limit t) λ ns q.
      lighter (sum_of named_weight ns) (each (λ i o. in_object i (object current start o)) 0 ns) q
      (each-weighs named_weight object_weight (λ i o. in_object i (object current start o)) (λ i o. in-object i (object current start o) (object-weighs start o)) 0 ns)

  judge-weighs : (start : ℕ) (t : Node P) → If (Within model_weight (weight t)) (judge current start t)
  unfolding judge root_fields field current
  judge-weighs start t =
      bind (root_fields current.root t) _ (bind (fields current.root t) _ (fields-weigh current.root t) λ ps q. passes {Q = λ (r : RootFields P). option_weight r.objects ≤ weight t} _ (let g = get-one (ascii "objects") ps in omega (arith, g, q))) λ r p.
      bind (required r.version) _ (anyhow (required r.version)) λ version u₁.
      then (a_version version) _
      (bind (optional attributes_of r.attributes) _ (anyhow (optional attributes_of r.attributes)) λ a u₂.
      bind (required r.objects) _ (taken r.objects) λ objects at-objects.
      bind (objects_of current start objects) _ (objects-weigh start objects) λ os q. passes _ (omega (arith, p, at-objects, q)))

-- ---- a file

pub reading-weighs : (file : List ℕ) → If (λ (r : Reading). model_weight r.model ≤ length file) (reading current file)
unfolding reading checked
reading-weighs file =
    bind (frame current file) _ (anyhow (frame current file)) λ f u.
    let s : List ℕ = take f.size (drop f.start file) in
    let shorter : length s ≤ length file = simp (length-take, length-drop) (omega arith) in
    bind (checked (manifest (span_to (f.start + f.size)) s)) _ (tree (manifest (span_to (f.start + f.size)) s) (manifest-light (span_to (f.start + f.size)) s)) λ t p.
    bind (judge current f.start t) _ (judge-weighs f.start t) λ m q. passes _ (omega (arith, shorter, p, q))
  where
    tree : {n : ℕ} (o : Outcome (Node Span)) → Got (λ (t : Node Span) (r : List ℕ). weight t ≤ n) o → If (Within weight n) (checked o)
    tree (got t r) h = passes t h.is
    tree (refused n r) h = record { is = tt }
