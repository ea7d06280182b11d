-- What an accepted file says passes the checks that the writer makes of a description: the reader has made them.
use Prim.Native.Nat.{ℕ, suc, ◌+◌, ◌%◌}
use mathlib.Core.List.{List, [], ◌∷◌, map}
use mathlib.Core.Bool.{true, ◌&&◌}
use mathlib.Core.Option.{Option, none, some}
use mathlib.Core.Path.{◌≡◌, refl, ap, ap₂, ◌∙◌}
use lib.ListN.{length, take, drop, length-map}
use lib.Dec.{eqb, leb}
use Rattle.meaning.specs.Tree.{Node}
use Rattle.meaning.specs.Check.{Check, pass, refuse, ◌>>◌, in_object, in_component, required, required_in, optional, each}
use Rattle.meaning.specs.Text.{all, distinct, utf8}
use Rattle.meaning.specs.Refusal.{TEXT, TWICE, COUNT, TYPE, ALIGN, BOUNDS}
use Rattle.meaning.specs.Limit.{object_limit, component_limit, alignment}
use Rattle.meaning.specs.Read.{span_to, manifest}
use Rattle.meaning.specs.Model.{Word, Named, Component, Object, Model}
use Rattle.meaning.specs.Kind.{a_word, a_text, a_number, a_mapping, present}
use Rattle.meaning.specs.Layouts.{slot, Layout, dtype_at}
use Rattle.meaning.specs.Field.{root_fields, object_fields, component_fields, name_of, names}
use Rattle.meaning.specs.Types.{logicals, listed, fits_over}
use Rattle.meaning.specs.Format.{format_rules}
use Rattle.meaning.specs.Judge.{or_else, inherited, a_dtype, a_type, raw, attributes_of, component, letters_of, part, shape_of, components_of, object, a_version, objects_of, judge}
use Rattle.meaning.specs.Frame.{frame, checked, Reading, reading}
use Rattle.meaning.specs.Every.{Every}
use Rattle.readback.specs.Judged.{judged_names, judged_type, judged_text}
use Rattle.roundtrip.proofs.If.{If, passes, anyhow, bind, then, tested}

-- ---- each in turn, beside what it came from

module _ {A B : Type 0} (R : A → B → Type 0) where
  abbrev pub Beside : List A → List B → Type 0
  Beside [] [] = Unit {0}
  Beside [] (b ∷ bs) = ⊥
  Beside (a ∷ l) [] = ⊥
  Beside (a ∷ l) (b ∷ bs) = R a b × Beside l bs

  pub each-beside : (f : ℕ → A → Check B) → ((i : ℕ) (a : A) → If (R a) (f i a)) → (i : ℕ) (l : List A) → If (Beside l) (each f i l)
  each-beside f g i [] = passes [] tt
  each-beside f g i (a ∷ l) = bind (f i a) _ (g i a) λ b q. bind (each f (suc i) l) _ (each-beside f g (suc i) l) λ bs qs. passes (b ∷ bs) (q, qs)

  beside-every : (Q : B → Type 0) → ((a : A) (b : B) → R a b → Q b) → (l : List A) (bs : List B) → Beside l bs → Every Q bs
  beside-every Q k [] [] h = tt
  beside-every Q k [] (b ∷ bs) h = absurd h
  beside-every Q k (a ∷ l) [] h = absurd h
  beside-every Q k (a ∷ l) (b ∷ bs) (h, hs) = (k a b h, beside-every Q k l bs hs)

  beside-map : {C : Type 0} (f : A → C) (g : B → C) → ((a : A) (b : B) → R a b → g b ≡ f a) → (l : List A) (bs : List B) → Beside l bs → map g bs ≡ map f l
  beside-map f g k [] [] h = refl
  beside-map f g k [] (b ∷ bs) h = absurd h
  beside-map f g k (a ∷ l) [] h = absurd h
  beside-map {C} f g k (a ∷ l) (b ∷ bs) (h, hs) = ap₂ {A = C} {B = List C} (λ x y. x ∷ y) (k a b h) (beside-map f g k l bs hs)

module _ {A : Type 0} {Q : A → Type 0} where
  in-object : (i : ℕ) (k : Check A) → If Q k → If Q (in_object i k)
  in-object i (pass a) h = record { is = h.is }
  in-object i (refuse n o c) h = record { is = tt }

  in-component : (i : ℕ) (k : Check A) → If Q k → If Q (in_component i k)
  in-component i (pass a) h = record { is = h.is }
  in-component i (refuse n o c) h = record { is = tt }

-- where a test of no value passed
then-held : {B : Type 0} {R : B → Type 0} (m : Check (Unit {0})) (k : Check B) → (m ≡ pass tt → If R k) → If R (m >> k)
then-held (pass a) k f = f refl
then-held (refuse n o c) k f = record { is = tt }

all_map : {A : Type 0} (f : A → List ℕ) (l : List A) → all utf8 (map f l) ≡ all (λ a. utf8 (f a)) l
all_map f [] = refl
all_map f (a ∷ l) = rw (all_map f l) refl

module _ {P : Type 0} where
  abbrev pub called : Named P → List ℕ
  called n = n.name.letters

  -- ---- names

  pub names-held : (limit : ℕ) (t : Node P) → If (λ (ns : List (Named P)). judged_names limit (map called ns) ≡ pass tt) (names limit t)
  unfolding names judged_names
  names-held limit t =
      bind (a_mapping t) _ (anyhow (a_mapping t)) λ ps u.
      bind (each (λ i. name_of) 0 ps) _ (anyhow (each (λ i. name_of) 0 ps)) λ ns v.
      tested TEXT (all (λ n. utf8 n.name.letters) ns) _ λ e.
      tested COUNT (leb (length ns) limit) _ λ f.
      tested TWICE (distinct (map (λ n. n.name.letters) ns)) _ λ g. passes ns (rw (all_map called ns, e, length-map ns called, f, g) refl)

  -- ---- components

  text-held : (t : Node P) → If (λ (w : Word P). utf8 w.letters ≡ true) (a_text t)
  unfolding a_text
  text-held t = bind (a_word t) _ (anyhow (a_word t)) λ w u. tested TEXT (utf8 w.letters) _ λ e. passes w e

  type-held : (d : ℕ) (o : Option (Node P)) → If (λ (t : Option (Word P)). judged_type d (letters_of t) ≡ pass tt) (optional (a_type d) o)
  unfolding a_type judged_type letters_of
  type-held d none = passes none refl
  type-held d (some t) =
      bind (a_type d t) _ (bind (a_text t) _ (text-held t) λ w e. tested TYPE (fits_over d (listed logicals w.letters)) _ λ f. passes {Q = λ (w : Word P). judged_type d (some w.letters) ≡ pass tt} w (rw (e, f) refl))
      λ w h. passes (some w) h

  digest-held : (o : Option (Node P)) → If (λ (t : Option (Word P)). judged_text (letters_of t) ≡ pass tt) (optional a_text o)
  unfolding judged_text letters_of
  digest-held none = passes none refl
  digest-held (some t) = bind (a_text t) _ (text-held t) λ w e. passes (some w) (rw e refl)

  pub record GoodComponent (c : Component P) : Type 0 where
    pub type : judged_type c.dtype (letters_of c.type) ≡ pass tt
    pub digest : judged_text (letters_of c.digest) ≡ pass tt

  abbrev FromName : Named P → Component P → Type 0
  FromName n c = (c.name.letters ≡ n.name.letters) × GoodComponent c

  component-held : (L : Layout) (start : ℕ) (above : Option ℕ) (n : Named P) → If (FromName n) (component L start above n)
  unfolding component
  component-held L start above n =
      bind (component_fields L.component n.value) _ (anyhow (component_fields L.component n.value)) λ c u₁.
      bind (required_in (slot dtype_at L.component) c.dtype) _ (anyhow (required_in (slot dtype_at L.component) c.dtype)) λ dtype u₂.
      bind (required c.offset) _ (anyhow (required c.offset)) λ offset u₃.
      bind (required c.length) _ (anyhow (required c.length)) λ length u₄.
      bind (optional (a_dtype L) dtype) _ (anyhow (optional (a_dtype L) dtype)) λ own u₅.
      bind (required (or_else own above)) _ (anyhow (required (or_else own above))) λ d u₈.
      bind (optional (a_type d) (present c.type)) _ (type-held d (present c.type)) λ t type.
      bind (a_number offset) _ (anyhow (a_number offset)) λ o u₆.
      bind (a_number length) _ (anyhow (a_number length)) λ l u₇.
      then (optional a_number (present c.uncompressed-length)) _
      (then (optional raw c.encoding) _
      (bind (optional a_text (present c.digest)) _ (digest-held (present c.digest)) λ g digest.
      tested ALIGN (eqb (o % alignment) 0) _ λ even. tested BOUNDS (leb alignment o && leb (o + l) start) _ λ inside. passes _ (refl, record { type = type; digest = digest })))

  -- ---- objects

  abbrev names_of : List (Component P) → List (List ℕ)
  names_of cs = map (λ c. c.name.letters) cs

  pub record GoodComponents (cs : List (Component P)) : Type 0 where
    pub names : judged_names component_limit (names_of cs) ≡ pass tt
    pub each-good : Every GoodComponent cs

  components-held : (L : Layout) (start : ℕ) (above : List ℕ → Option ℕ) (t : Node P) → If GoodComponents (components_of L start above t)
  unfolding components_of
  components-held L start above t =
      bind (names component_limit t) _ (names-held component_limit t) λ ns h.
      good ns h (each (λ j c. in_component j (one c)) 0 ns)
      (each-beside FromName (λ j c. in_component j (one c)) (λ j c. in-component j (one c) (component-held L start (above c.name.letters) c)) 0 ns)
    where
      one : Named P → Check (Component P)
      one c = component L start (above c.name.letters) c

      good : (ns : List (Named P)) → judged_names component_limit (map called ns) ≡ pass tt → (k : Check (List (Component P))) → If (Beside FromName ns) k → If GoodComponents k
      good ns h (pass cs) b = passes cs (record {
        names = ap (judged_names component_limit) (beside-map FromName called (λ c. c.name.letters) (λ n c r. r.0) ns cs b.is) ∙ h;
        each-good = beside-every FromName GoodComponent (λ n c r. r.1) ns cs b.is;
      })
      good ns h (refuse n o c) b = record { is = tt }

  pub record GoodObject (o : Object P) : Type 0 where
    pub format : utf8 o.format.letters ≡ true
    pub components : GoodComponents o.components
    pub rules : format_rules o.format.letters o.shape (map part o.components) ≡ pass tt

  abbrev pub FromNamed : Named P → Object P → Type 0
  FromNamed n o = (o.name.letters ≡ n.name.letters) × GoodObject o

  pub object-held : (L : Layout) (start : ℕ) (n : Named P) → If (FromNamed n) (object L start n)
  unfolding object
  object-held L start n =
      bind (object_fields L.object n.value) _ (anyhow (object_fields L.object n.value)) λ o u₁.
      bind (required_in (slot dtype_at L.object) o.dtype) _ (anyhow (required_in (slot dtype_at L.object) o.dtype)) λ dtype u₇.
      bind (required o.shape) _ (anyhow (required o.shape)) λ shape u₂.
      bind (required o.format) _ (anyhow (required o.format)) λ format u₃.
      bind (required o.components) _ (anyhow (required o.components)) λ components u₄.
      bind (optional (a_dtype L) dtype) _ (anyhow (optional (a_dtype L) dtype)) λ d u₈.
      bind (shape_of shape) _ (anyhow (shape_of shape)) λ s u₅.
      bind (a_text format) _ (text-held format) λ f text.
      bind (optional attributes_of o.attributes) _ (anyhow (optional attributes_of o.attributes)) λ a u₆.
      bind (components_of L start (inherited f.letters d) components) _ (components-held L start (inherited f.letters d) components) λ cs good.
      then-held (format_rules f.letters s (map part cs)) _ λ rules. passes _ (refl, record { format = text; components = good; rules = rules })

  pub record GoodModel (m : Model P) : Type 0 where
    pub names : judged_names object_limit (map (λ o. o.name.letters) m.objects) ≡ pass tt
    pub objects : Every GoodObject m.objects

  judge-held : (L : Layout) (start : ℕ) (t : Node P) → If GoodModel (judge L start t)
  unfolding judge objects_of
  judge-held L start t =
      bind (root_fields L.root t) _ (anyhow (root_fields L.root t)) λ r u₁.
      bind (required r.version) _ (anyhow (required r.version)) λ version u₂.
      then (a_version version) _
      (bind (optional attributes_of r.attributes) _ (anyhow (optional attributes_of r.attributes)) λ a u₃.
      bind (required r.objects) _ (anyhow (required r.objects)) λ objects u₄.
      bind (objects_of L start objects) _ (objects-held objects) λ os q. passes _ (record { names = q.0; objects = q.1 }))
    where
      good : (ns : List (Named P)) → judged_names object_limit (map called ns) ≡ pass tt → (k : Check (List (Object P))) → If (Beside FromNamed ns) k
          → If (λ (os : List (Object P)). (judged_names object_limit (map (λ o. o.name.letters) os) ≡ pass tt) × Every GoodObject os) k
      good ns h (pass os) b = passes os (
        ap (judged_names object_limit) (beside-map FromNamed called (λ o. o.name.letters) (λ n o r. r.0) ns os b.is) ∙ h,
        beside-every FromNamed GoodObject (λ n o r. r.1) ns os b.is,
      )
      good ns h (refuse n o c) b = record { is = tt }

      objects-held : (objects : Node P) → If (λ (os : List (Object P)). (judged_names object_limit (map (λ o. o.name.letters) os) ≡ pass tt) × Every GoodObject os) (objects_of L start objects)
      objects-held objects =
          bind (names object_limit objects) _ (names-held object_limit objects) λ ns h.
          good ns h (each (λ i o. in_object i (object L start o)) 0 ns)
          (each-beside FromNamed (λ i o. in_object i (object L start o)) (λ i o. in-object i (object L start o) (object-held L start o)) 0 ns)

pub reading-good : (L : Layout) (file : List ℕ) → If (λ (r : Reading). GoodModel r.model) (reading L file)
unfolding reading
reading-good L file =
    bind (frame L file) _ (anyhow (frame L file)) λ f u.
    bind (checked (manifest (span_to (f.start + f.size)) (take f.size (drop f.start file)))) _ (anyhow (checked (manifest (span_to (f.start + f.size)) (take f.size (drop f.start file))))) λ t v.
    bind (judge L f.start t) _ (judge-held L f.start t) λ m s. passes _ s
