-- Trees that are alike in a layout get the same verdict, in any layout.
use Prim.Native.Nat.{ℕ, zero, suc}
use mathlib.Core.List.{List, [], ◌∷◌, map}
use mathlib.Core.Bool.{Bool, true, false, cond, ◌&&◌}
use mathlib.Core.Option.{Option, none, some}
use mathlib.Core.Path.{◌≡◌, refl, ap, ap₂, sym, ◌∙◌}
use lib.ListN.{length}
use lib.Dec.{leb}
use Rattle.meaning.specs.Tree.{Node, Pair, note_of, dict, pair_list}
use Rattle.meaning.specs.Check.{Check, pass, refuse, ◌>>=◌, ◌>>◌, ◌unless◌, in_object, in_component, each}
use Rattle.meaning.specs.Text.{all, utf8, distinct}
use Rattle.meaning.specs.Refusal.{TEXT, COUNT, TWICE, VERSION, MAJOR}
use Rattle.meaning.specs.Version.{version_shape, major_one}
use Rattle.meaning.specs.Model.{Word, Named, RootFields, ObjectFields}
use Rattle.meaning.specs.Kind.{Kind, number, words, list, mapping, null, another, kind, a_mapping, as_mapping, a_word, as_word}
use Rattle.meaning.specs.Layouts.{slot, Layout}
use Rattle.meaning.specs.Field.{field, fields, root_fields, object_fields, component_fields, name_kind, name_of, names}
use Rattle.meaning.specs.Judge.{component, components_of, object, a_version, objects_of, judge}
use Rattle.meaning.specs.Moved.{Entries, end, next, InMaps, alike, maps}
use Rattle.meaning.proofs.Alike.{VersionAlike, same, versions, ComponentAlike, ObjectValue, ObjectAlike, RootValue, RootAlike}
use Rattle.meaning.proofs.FieldsAlike.{OptionAlike, nones, both, Both, passes, refuses, FieldsAlike, fields-alike}

module _ {A B : Type 0} {R : A → A → Type 0} where
  bind-both : {x y : Check A} (k h : A → Check B) → Both R x y → ((a b : A) → R a b → k a ≡ h b) → (x >>= k) ≡ (y >>= h)
  bind-both k h (passes {a = a} {b = b} r) e = e a b r
  bind-both k h refuses e = refl

  both-bind : {S : B → B → Type 0} {x y : Check A} (k h : A → Check B) → Both R x y → ((a b : A) → R a b → Both S (k a) (h b)) → Both S (x >>= k) (y >>= h)
  both-bind k h (passes {a = a} {b = b} r) e = e a b r
  both-bind k h refuses e = refuses

then-both : {A B : Type 0} {R : B → B → Type 0} {x y : Check B} (c : Check A) → Both R x y → Both R (c >> x) (c >> y)
then-both (pass a) r = r
then-both (refuse n o c) r = refuses

both-self : {A : Type 0} {R : A → A → Type 0} → ((a : A) → R a a) → (c : Check A) → Both R c c
both-self self (pass a) = passes (self a)
both-self self (refuse n o c) = refuses

option-equal : {A : Type 0} {x y : Option A} → OptionAlike (λ a b. a ≡ b) x y → x ≡ y
option-equal nones = refl
option-equal {A} (both e) = ap {B = Option A} some e

-- ---------------------------------------------------------------- maps of names

module _ {P : Type 0} (R : Node P → Node P → Type 0) where
  record NamedAlike (a b : Named P) : Type 0 where
    name : a.name ≡ b.name
    value : R a.value b.value

  data Nameds : List (Named P) → List (Named P) → Type 0 where
    nobody : Nameds [] []
    one : {a b : Named P} {l m : List (Named P)} → NamedAlike a b → Nameds l m → Nameds (a ∷ l) (b ∷ m)

  name_kind-alike : (v w : Node P) (k : Kind P) → R v w → Both NamedAlike (name_kind v k) (name_kind w k)
  unfolding name_kind
  name_kind-alike v w (number n) r = refuses
  name_kind-alike v w (words x) r = passes (record { name = refl; value = r })
  name_kind-alike v w (list l) r = refuses
  name_kind-alike v w (mapping l) r = refuses
  name_kind-alike v w null r = refuses
  name_kind-alike v w another r = refuses

  name_of-alike : (p q : Pair P) → p.key ≡ q.key → R p.value q.value → Both NamedAlike (name_of p) (name_of q)
  unfolding name_of
  name_of-alike p q e r = rw e (name_kind-alike p.value q.value (kind q.key) r)

  entries-alike : (i : ℕ) {l m : List (Pair P)} → Entries R l m → Both Nameds (each (λ i. name_of) i l) (each (λ i. name_of) i m)
  entries-alike i end = passes nobody
  entries-alike i (next {p = p} {q = q} e r es) =
      both-bind _ _ (name_of-alike p q e r) λ a b h. both-bind _ _ (entries-alike (suc i) es) λ as' bs hs. passes (one h hs)

  utf8-alike : {l m : List (Named P)} → Nameds l m → all (λ n. utf8 n.name.letters) l ≡ all (λ n. utf8 n.name.letters) m
  utf8-alike nobody = refl
  utf8-alike (one h hs) = rw (h.name, utf8-alike hs)

  length-alike : {l m : List (Named P)} → Nameds l m → length l ≡ length m
  length-alike nobody = refl
  length-alike (one h hs) = rw (length-alike hs)

  letters-alike : {l m : List (Named P)} → Nameds l m → map (λ n. n.name.letters) l ≡ map (λ n. n.name.letters) m
  letters-alike nobody = refl
  letters-alike (one h hs) = rw (h.name, letters-alike hs)

  nameds-self : ((x : Node P) → R x x) → (l : List (Named P)) → Nameds l l
  nameds-self self [] = nobody
  nameds-self self (a ∷ l) = one (record { name = refl; value = self a.value }) (nameds-self self l)

  names-alike : ((x : Node P) → R x x) → (limit : ℕ) {t u : Node P} → InMaps (Entries R) t u → Both Nameds (names limit t) (names limit u)
  unfolding names a_mapping as_mapping kind
  names-alike self limit {t} alike = both-self (nameds-self self) (names limit t)
  names-alike self limit (maps r) =
      both-bind _ _ (entries-alike 0 r) λ l m h. rw (utf8-alike h, length-alike h, letters-alike h)
      (then-both (TEXT unless all (λ n. utf8 n.name.letters) m)
      (then-both (COUNT unless leb (length m) limit)
      (then-both (TWICE unless distinct (map (λ n. n.name.letters) m)) (passes h))))

  each-alike : {B : Type 0} (g : ℕ → Named P → Check B) → ((i : ℕ) (a b : Named P) → NamedAlike a b → g i a ≡ g i b)
      → (i : ℕ) {l m : List (Named P)} → Nameds l m → each g i l ≡ each g i m
  each-alike g e i nobody = refl
  each-alike g e i (one {a = a} {b = b} h hs) = rw (e i a b h, each-alike g e (suc i) hs)

-- ---------------------------------------------------------------- a component

module _ {P : Type 0} (L : Layout) where
  component_fields-alike : {t u : Node P} → ComponentAlike L t u → component_fields L.component t ≡ component_fields L.component u
  unfolding component_fields
  component_fields-alike r =
      bind-both _ _ (fields-alike L.component (λ i x y. x ≡ y) (λ i x. refl) r) λ l m h.
      rw (option-equal (h 0), option-equal (h 1), option-equal (h 2), option-equal (h 3), option-equal (h 4), option-equal (h 5), option-equal (h 6))

  note-alike : {R : List (Pair P) → List (Pair P) → Type 0} {t u : Node P} → InMaps R t u → note_of t ≡ note_of u
  note-alike alike = refl
  note-alike (maps r) = refl

  component-alike : (start : ℕ) (above : Option ℕ) (a b : Named P) → NamedAlike (ComponentAlike L) a b → component L start above a ≡ component L start above b
  unfolding component
  component-alike start above a b h = simp (h.name, component_fields-alike h.value, note-alike h.value)

  components_of-alike : (start : ℕ) {t u : Node P} → InMaps (Entries (ComponentAlike L)) t u → (above : List ℕ → Option ℕ) → components_of L start above t ≡ components_of L start above u
  unfolding components_of
  components_of-alike start r above =
      bind-both _ _ (names-alike (ComponentAlike L) (λ x. alike) _ r) λ l m h.
      each-alike (ComponentAlike L) (λ j c. in_component j (component L start (above c.name.letters) c))
      (λ j a b n. rw (component-alike start (above a.name.letters) a b n, n.name)) 0 h

  -- ---------------------------------------------------------------- an object

  record ObjectFieldsAlike (o o' : ObjectFields P) : Type 0 where
    dtype : o.dtype ≡ o'.dtype
    shape : o.shape ≡ o'.shape
    format : o.format ≡ o'.format
    attributes : o.attributes ≡ o'.attributes
    components : OptionAlike (InMaps (Entries (ComponentAlike L))) o.components o'.components

  pub object-value-self : (i : ℕ) (x : Node P) → ObjectValue L i x x
  object-value-self zero x = refl
  object-value-self (suc zero) x = refl
  object-value-self (suc (suc zero)) x = refl
  object-value-self (suc (suc (suc zero))) x = refl
  object-value-self (suc (suc (suc (suc zero)))) x = alike
  object-value-self (suc (suc (suc (suc (suc i))))) x = refl

  object_fields-alike : {t u : Node P} → ObjectAlike L t u → Both ObjectFieldsAlike (object_fields L.object t) (object_fields L.object u)
  unfolding object_fields
  object_fields-alike r =
      both-bind _ _ (fields-alike L.object (ObjectValue L) object-value-self r) λ l m h.
      passes (record { dtype = option-equal (h 0); shape = option-equal (h 1); format = option-equal (h 2); attributes = option-equal (h 3); components = h 4 })

  -- what is made of an object's fields may look at its components by what is alike
  by-components : {B : Type 0} (K : ObjectFields P → B)
      → ((d s f a : Option (Node P)) (x y : Node P) → InMaps (Entries (ComponentAlike L)) x y
      → K (record { dtype = d; shape = s; format = f; attributes = a; components = some x }) ≡ K (record { dtype = d; shape = s; format = f; attributes = a; components = some y }))
      → (o o' : ObjectFields P) → ObjectFieldsAlike o o' → K o ≡ K o'
  by-components K e o o' h = go h.components ∙ rw (h.dtype, h.shape, h.format, h.attributes)
    where
      go : {c c' : Option (Node P)} → OptionAlike (InMaps (Entries (ComponentAlike L))) c c'
          → K (record { dtype = o.dtype; shape = o.shape; format = o.format; attributes = o.attributes; components = c })
          ≡ K (record { dtype = o.dtype; shape = o.shape; format = o.format; attributes = o.attributes; components = c' })
      go nones = refl
      go (both {x = x} {y = y} r) = e o.dtype o.shape o.format o.attributes x y r

  object-alike : (start : ℕ) (a b : Named P) → NamedAlike (ObjectAlike L) a b → object L start a ≡ object L start b
  unfolding object
  object-alike start a b h =
      rw h.name (bind-both _ _ (object_fields-alike h.value) (by-components _ λ d s f a x y r. simp (components_of-alike start r)))

  objects_of-alike : (start : ℕ) {t u : Node P} → InMaps (Entries (ObjectAlike L)) t u → objects_of L start t ≡ objects_of L start u
  unfolding objects_of
  objects_of-alike start r =
      bind-both _ _ (names-alike (ObjectAlike L) (λ x. alike) _ r) λ l m h.
      each-alike (ObjectAlike L) (λ i o. in_object i (object L start o)) (λ i a b n. rw (object-alike start a b n)) 0 h

  -- ---------------------------------------------------------------- the root

  version-alike : {t u : Node P} → VersionAlike t u → a_version t ≡ a_version u
  unfolding a_version a_word as_word kind
  version-alike same = refl
  version-alike (versions {v = v} {w = w} e f) = ordinary v e ∙ sym (ordinary w f)
    where
      go : (a b : Bool) → (a && b) ≡ true → (VERSION unless a >> MAJOR unless b) ≡ pass tt
      go true true h = refl
      go true false h = cc
      go false b h = cc

      ordinary : (v : List ℕ) → (version_shape v && major_one v) ≡ true → (VERSION unless version_shape v >> MAJOR unless major_one v) ≡ pass tt
      ordinary v h = go (version_shape v) (major_one v) h

  record RootFieldsAlike (r r' : RootFields P) : Type 0 where
    version : OptionAlike VersionAlike r.version r'.version
    attributes : r.attributes ≡ r'.attributes
    objects : OptionAlike (InMaps (Entries (ObjectAlike L))) r.objects r'.objects

  pub root-value-self : (i : ℕ) (x : Node P) → RootValue L i x x
  root-value-self zero x = same
  root-value-self (suc zero) x = refl
  root-value-self (suc (suc zero)) x = alike
  root-value-self (suc (suc (suc i))) x = refl

  root_fields-alike : {t u : Node P} → RootAlike L t u → Both RootFieldsAlike (root_fields L.root t) (root_fields L.root u)
  unfolding root_fields
  root_fields-alike r =
      both-bind _ _ (fields-alike L.root (RootValue L) root-value-self r) λ l m h.
      passes (record { version = h 0; attributes = option-equal (h 1); objects = h 2 })

  by-root : {B : Type 0} (K : RootFields P → B)
      → ((a o : Option (Node P)) (x y : Node P) → VersionAlike x y → K (record { version = some x; attributes = a; objects = o }) ≡ K (record { version = some y; attributes = a; objects = o }))
      → ((v a : Option (Node P)) (x y : Node P) → InMaps (Entries (ObjectAlike L)) x y
      → K (record { version = v; attributes = a; objects = some x }) ≡ K (record { version = v; attributes = a; objects = some y }))
      → (r r' : RootFields P) → RootFieldsAlike r r' → K r ≡ K r'
  by-root K e f r r' h = go h.version ∙ go₂ h.objects ∙ rw h.attributes
    where
      go : {c c' : Option (Node P)} → OptionAlike VersionAlike c c'
          → K (record { version = c; attributes = r.attributes; objects = r.objects }) ≡ K (record { version = c'; attributes = r.attributes; objects = r.objects })
      go nones = refl
      go (both {x = x} {y = y} s) = e r.attributes r.objects x y s

      go₂ : {c c' : Option (Node P)} → OptionAlike (InMaps (Entries (ObjectAlike L))) c c'
          → K (record { version = r'.version; attributes = r.attributes; objects = c }) ≡ K (record { version = r'.version; attributes = r.attributes; objects = c' })
      go₂ nones = refl
      go₂ (both {x = x} {y = y} s) = f r'.version r.attributes x y s

  pub judge-alike : (start : ℕ) {t u : Node P} → RootAlike L t u → judge L start t ≡ judge L start u
  unfolding judge
  judge-alike start r =
      bind-both _ _ (root_fields-alike r)
      (by-root _ (λ a o x y s. rw (version-alike s)) (λ v a x y s. simp (objects_of-alike start s)))
