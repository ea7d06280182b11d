-- The entries of manifests that are alike: component by component, in any layout, they are related as the manifests are.
use Prim.Native.Nat.{ℕ, suc}
use mathlib.Core.List.{List, [], ◌∷◌, map}
use mathlib.Core.Option.{Option, some}
use mathlib.Core.Path.{◌≡◌, refl, ap, ap₂, sym, subst, ◌∙◌}
use lib.ListN.{length}
use lib.Dec.{leb}
use Rattle.meaning.specs.Tree.{Node, Pair, meaning, nothing}
use Rattle.meaning.specs.Check.{Check, pass, refuse, ◌>>=◌, ◌unless◌, in_object, required, optional, each}
use Rattle.meaning.specs.Text.{all, distinct, utf8}
use Rattle.meaning.specs.Refusal.{KEY, TEXT, TWICE, COUNT}
use Rattle.meaning.specs.Limit.{object_limit}
use Rattle.meaning.specs.Read.{Span}
use Rattle.meaning.specs.Model.{Named, Object}
use Rattle.meaning.specs.Kind.{Kind, number, words, list, mapping, null, another, kind, as_mapping, a_mapping}
use Rattle.meaning.specs.Layouts.{Slots, slot, somes, Layout, objects_at, components_at}
use Rattle.meaning.specs.Field.{is_some, key_of, count, field, fields, root_fields, object_fields, name_kind, name_of, names}
use Rattle.meaning.specs.Judge.{attributes_of, object, a_version, objects_of, judge}
use Rattle.meaning.specs.Notes.{map_check, map_model}
use Rattle.meaning.specs.Drop.{drop_component, drop_root}
use Rattle.meaning.specs.Moved as moved
use Rattle.meaning.specs.Moved.{Permuted, Entries, InMaps, alike, maps, Under, whole, value, ComponentMoved, ObjectMoved, RootMoved, Same}
use Rattle.meaning.proofs.Alike as rearranged
use Rattle.meaning.proofs.Alike.{PairAlike, Rearranged}
use Rattle.meaning.proofs.FieldsAlike.{OptionAlike, nones, both, FieldsAlike, Both, passes, refuses, fields-alike}
use Rattle.meaning.proofs.JudgeNatural.{judge-map, map-map}
use Rattle.meaning.proofs.AlikeVerdict.{judge-alike}
use Rattle.meaning.proofs.DropAlike.{drop_root-alike}
use Rattle.meaning.proofs.Entries.{pairs_or, pairs_in, values_in, entries_in, entries_of, entries_of-map, entries_of-drop, Along}
use Rattle.meaning.proofs.Checks.{refused-is-not, required-some, passed_on}
use Rattle.meaning.specs.Every.{Every}
use Rattle.tolerance.specs.Manifests.{SameEntry, AlikeEntry}

-- ---------------------------------------------------------------- lists, one beside the other

module _ {A B C D : Type 0} (f : A → C) (g : B → D) (R : C → D → Type 0) where
  -- what is related through its images
  along-images : (as' : List A) (bs : List B) → Along R (map f as') (map g bs) → Along (λ a b. R (f a) (g b)) as' bs
  along-images [] [] h = tt
  along-images [] (b ∷ bs) h = h
  along-images (a ∷ as') [] h = h
  along-images (a ∷ as') (b ∷ bs) h = (h.0, along-images as' bs h.1)

  -- two lists of lists
  pub along-lists : (as' : List (List A)) (bs : List (List B)) → Along (Along R) (map (map f) as') (map (map g) bs) → Along (Along (λ a b. R (f a) (g b))) as' bs
  along-lists [] [] h = tt
  along-lists [] (b ∷ bs) h = h
  along-lists (a ∷ as') [] h = h
  along-lists (a ∷ as') (b ∷ bs) h = (along-images a b h.0, along-lists as' bs h.1)

module _ {A : Type 0} (R : A → A → Type 0) (self : (a : A) → R a a) where
  along-self : (l : List A) → Along R l l
  along-self [] = tt
  along-self (a ∷ l) = (self a, along-self l)

-- ---------------------------------------------------------------- checks that pass

module _ {A : Type 0} where
  pub record Passes (k : Check A) : Type 0 where
    pub given : A
    pub is : k ≡ pass given

  of-object : (i : ℕ) (k : Check A) → Passes (in_object i k) → Passes k
  of-object i (pass a) h = record { given = a; is = refl }
  of-object i (refuse n o c) h = absurd (refused-is-not h.is)

module _ {A B : Type 0} where
  step : (m : Check A) (k : A → Check B) {b : B} → (m >>= k) ≡ pass b → (a : A) × (m ≡ pass a) × (k a ≡ pass b)
  step (pass a) k e = (a, refl, e)
  step (refuse n o c) k e = absurd (refused-is-not e)

  first : (m : Check A) (k : A → Check B) → Passes (m >>= k) → Passes m
  first m k h = let s = step m k h.is in record { given = s.0; is = s.1 }

-- ---------------------------------------------------------------- what a judgement that passes has looked at

module _ {P : Type 0} where
  name-value : (v : Node P) (k : Kind P) (n : Named P) → name_kind v k ≡ pass n → n.value ≡ v
  unfolding name_kind
  name-value v (number m) n e = absurd (refused-is-not e)
  name-value v (words w) n e = let z : record { name = w; value = v } ≡ n = cc in sym (ap (λ (n : Named P). n.value) z)
  name-value v (list l) n e = absurd (refused-is-not e)
  name-value v (mapping l) n e = absurd (refused-is-not e)
  name-value v null n e = absurd (refused-is-not e)
  name-value v another n e = absurd (refused-is-not e)

  each-value : (i : ℕ) (ps : List (Pair P)) (ns : List (Named P)) → each (λ i. name_of) i ps ≡ pass ns → map (λ n. n.value) ns ≡ map (λ p. p.value) ps
  unfolding name_of
  each-value i [] ns e = let z : ◌≡◌ {A = List (Named P)} [] ns = cc in ap (map (λ (n : Named P). n.value)) (sym z)
  each-value i (p ∷ ps) ns e =
      let s = step (name_kind p.value (kind p.key)) _ e in
      let t = step (each (λ i. name_of) (suc i) ps) _ s.2 in
      let z : s.0 ∷ t.0 ≡ ns = cc in
      ap (map (λ (n : Named P). n.value)) (sym z)
      ∙ ap₂ {C = List (Node P)} (λ x y. x ∷ y) (name-value p.value (kind p.key) s.0 s.1) (each-value (suc i) ps t.0 t.1)

  names-values : (limit : ℕ) (t : Node P) (ns : List (Named P)) → names limit t ≡ pass ns → map (λ n. n.value) ns ≡ values_in (some t)
  unfolding names values_in pairs_in pairs_or
  names-values limit t ns e =
      let s = step (a_mapping t) _ e in
      let u = step (each (λ i. name_of) 0 s.0) _ s.2 in
      let z : pass u.0 ≡ pass ns =
      passed_on (TWICE unless distinct (map (λ n. n.name.letters) u.0)) _ _ (passed_on (COUNT unless leb (length u.0) limit) _ _ (passed_on (TEXT unless all (λ n. utf8 n.name.letters) u.0) _ _ u.2)) in
      let y : u.0 ≡ ns = cc in
      ap (map (λ (n : Named P). n.value)) (sym y) ∙ each-value 0 s.0 u.0 u.1 ∙ ap (λ k. map (λ p. p.value) (pairs_or k)) (sym s.1)

  fields-pairs : (slots : Slots) (t : Node P) (ps : List (Pair P)) → fields slots t ≡ pass ps → ps ≡ pairs_in t
  unfolding fields pairs_in pairs_or
  fields-pairs slots t ps e =
      let s = step (a_mapping t) _ e in
      let z : pass s.0 ≡ pass ps =
      passed_on (TWICE unless all (λ n. leb (count n s.0) 1) (somes slots)) _ _ (passed_on (KEY unless all (λ p. is_some (key_of p)) s.0) _ _ s.2) in
      let y : s.0 ≡ ps = cc in
      sym y ∙ ap pairs_or (sym s.1)

  module _ (L : Layout) (start : ℕ) where
    -- its known fields stand once at most
    abbrev Fielded : Node P → Type 0
    Fielded t = Passes (fields L.object t)

    object-fielded : (n : Named P) → Passes (object L start n) → Fielded n.value
    unfolding object object_fields
    object-fielded n h = first (fields L.object n.value) _ (first (object_fields L.object n.value) _ h)

    each-fielded : (i : ℕ) (ns : List (Named P)) (os : List (Object P)) → each (λ i o. in_object i (object L start o)) i ns ≡ pass os → Every Fielded (map (λ n. n.value) ns)
    each-fielded i [] os e = tt
    each-fielded i (n ∷ ns) os e =
        let s = step (in_object i (object L start n)) _ e in
        let t = step (each (λ i o. in_object i (object L start o)) (suc i) ns) _ s.2 in
        (object-fielded n (of-object i (object L start n) (record { given = s.0; is = s.1 })), each-fielded (suc i) ns t.0 t.1)

    record Looked (t : Node P) : Type 0 where
      root : Passes (fields L.root t)
      objects : Every Fielded (values_in (field (slot objects_at L.root) (pairs_in t)))

    looked : (t : Node P) → Passes (judge L start t) → Looked t
    unfolding judge root_fields objects_of
    looked t h =
        let r = step (root_fields L.root t) _ h.is in
        let f = step (fields L.root t) _ r.1 in
        let z : record { version = field (slot 0 L.root) f.0; attributes = field (slot 1 L.root) f.0; objects = field (slot objects_at L.root) f.0 } ≡ r.0 = cc in
        let version = step (required r.0.version) _ r.2 in
        let attributes = step (optional attributes_of r.0.attributes) _ (passed_on (a_version version.0) _ _ version.2) in
        let objects = step (required r.0.objects) _ attributes.2 in
        let there : field (slot objects_at L.root) (pairs_in t) ≡ some objects.0 =
        ap (field (slot objects_at L.root)) (sym (fields-pairs L.root t f.0 f.1)) ∙ ap (λ x. x.objects) z ∙ required-some r.0.objects objects.0 objects.1 in
        let all = step (objects_of L start objects.0) _ objects.2 in
        let ns = step (names object_limit objects.0) _ all.1 in
        record {
          root = record { given = f.0; is = f.1 };
          objects = subst (λ o. Every Fielded (values_in o)) (sym there)
              (subst (Every Fielded) (names-values object_limit objects.0 ns.0 ns.1) (each-fielded 0 ns.0 all.0 ns.2));
        }

-- ---------------------------------------------------------------- one kind of map

module _ {P : Type 0} (slots : Slots) (j : ℕ) (R : Node P → Node P → Type 0) (self : (x : Node P) → R x x) where
  abbrev Values : Node P → Node P → Type 0
  Values = InMaps (Entries R)

  pair-moved : (p q : Pair P) → Under (slot j slots) Values p q → PairAlike slots (λ i. Values) p q
  pair-moved p q whole = record { key = refl; value = λ i h. alike }
  pair-moved p q (value e k r) = record { key = k; value = λ i h. r }

  pairs-moved : {l m : List (Pair P)} → Permuted (Under (slot j slots) Values) l m → Rearranged slots (λ i. Values) l m
  pairs-moved moved.done = rearranged.done
  pairs-moved (moved.put {p = p} {q = q} r s i) = rearranged.put (pair-moved p q r) (pairs-moved s) i

  entries-along : {l m : List (Pair P)} → Entries R l m → Along R (map (λ p. p.value) l) (map (λ p. p.value) m)
  entries-along moved.end = tt
  entries-along (moved.next k r es) = (r, entries-along es)

  values-along : (x y : Node P) → Values x y → Along R (values_in (some x)) (values_in (some y))
  unfolding values_in pairs_in pairs_or a_mapping as_mapping kind
  values-along x y alike = along-self R self (values_in (some x))
  values-along x y (maps {ps = ps} {qs = qs} es) = entries-along es

  option-along : (o r : Option (Node P)) → OptionAlike Values o r → Along R (values_in o) (values_in r)
  unfolding values_in
  option-along o r nones = tt
  option-along o r (both {x = x} {y = y} h) = values-along x y h

  values_moved : (t u : Node P) → InMaps (Permuted (Under (slot j slots) Values)) t u → Passes (fields slots t)
      → Along R (values_in (field (slot j slots) (pairs_in t))) (values_in (field (slot j slots) (pairs_in u)))
  values_moved t u alike h = along-self R self (values_in (field (slot j slots) (pairs_in t)))
  values_moved t u (maps {ps = ps} {qs = qs} r) h = by (fields slots t) refl (fields slots u) refl (fields-alike slots (λ i. Values) (λ i x. alike) (maps {ps = ps} {qs = qs} (pairs-moved r)))
    where
      by : (k₁ : Check (List (Pair P))) → fields slots t ≡ k₁ → (k₂ : Check (List (Pair P))) → fields slots u ≡ k₂ → Both (FieldsAlike slots (λ i. Values)) k₁ k₂
          → Along R (values_in (field (slot j slots) (pairs_in t))) (values_in (field (slot j slots) (pairs_in u)))
      by k₁ e₁ k₂ e₂ (passes {a = l} {b = m} a) =
          rw (← fields-pairs slots t l e₁, ← fields-pairs slots u m e₂) (option-along (field (slot j slots) l) (field (slot j slots) m) (a j))
      by k₁ e₁ k₂ e₂ refuses = absurd (refused-is-not (sym e₁ ∙ h.is))

-- ---------------------------------------------------------------- a whole manifest

module _ {P : Type 0} (L : Layout) where
  objects-along : (ts us : List (Node P)) → Along (ObjectMoved L) ts us → Every (λ t. Passes (fields L.object t)) ts → Along (Along ComponentMoved) (map (entries_in L) ts) (map (entries_in L) us)
  unfolding entries_in
  objects-along [] [] h f = tt
  objects-along [] (u ∷ us) h f = h
  objects-along (t ∷ ts) [] h f = h
  objects-along (t ∷ ts) (u ∷ us) h f = (values_moved L.object components_at ComponentMoved (λ x. alike) t u h.0 f.0, objects-along ts us h.1 f.1)

  -- each entry's own fields are moved about, and the entries stay in order
  entries-moved : (start : ℕ) (t u : Node P) → RootMoved L t u → Passes (judge L start t) → Along (Along ComponentMoved) (entries_of L t) (entries_of L u)
  unfolding entries_of
  entries-moved start t u r h =
      let l = looked L start t h in
      objects-along (values_in (field (slot objects_at L.root) (pairs_in t))) (values_in (field (slot objects_at L.root) (pairs_in u)))
      (values_moved L.root objects_at (ObjectMoved L) (λ x. alike) t u r l.root) l.objects

-- ---------------------------------------------------------------- two files' manifests

module _ (L : Layout) (t₁ t₂ : Node Span) where
  abbrev pub EntriesRelated : (Node (Unit {0}) → Node (Unit {0}) → Type 0) → Type 0
  EntriesRelated E = Along (Along (λ x y. E (meaning x) (meaning y))) (entries_of L t₁) (entries_of L t₂)

  abbrev whole-entry : Node Span → Node (Unit {0})
  whole-entry x = meaning x

  abbrev dropped-entry : Node Span → Node (Unit {0})
  dropped-entry x = drop_component L (meaning x)

  -- the entries of a tree without annotations, and of one without unknown fields
  meant : (t : Node Span) → entries_of L (meaning t) ≡ map (map whole-entry) (entries_of L t)
  meant t = entries_of-map nothing L t

  dropped : (t : Node Span) → entries_of L (drop_root L (meaning t)) ≡ map (map dropped-entry) (entries_of L t)
  dropped t =
      entries_of-drop L (meaning t) ∙ ap (map (map (drop_component L))) (meant t) ∙ map-map (map whole-entry) (map (drop_component L)) (entries_of L t) ∙ both-maps (entries_of L t)
    where
      both-maps : (xss : List (List (Node Span))) → map (λ xs. map (drop_component L) (map whole-entry xs)) xss ≡ map (map dropped-entry) xss
      both-maps [] = refl
      both-maps (xs ∷ xss) = ap₂ {C = List (List (Node (Unit {0})))} (λ a b. a ∷ b) (map-map whole-entry (drop_component L) xs) (both-maps xss)

  -- demand 3
  pub same_entries : drop_root L (meaning t₁) ≡ drop_root L (meaning t₂) → EntriesRelated (SameEntry L)
  same_entries e =
      along-lists dropped-entry dropped-entry (λ x y. x ≡ y) (entries_of L t₁) (entries_of L t₂)
      (subst (Along (Along (λ x y. x ≡ y)) (map (map dropped-entry) (entries_of L t₁))) (sym (dropped t₁) ∙ ap (entries_of L) e ∙ dropped t₂)
      (along-self (Along (λ x y. x ≡ y)) (along-self (λ x y. x ≡ y) (λ x. refl)) (map (map dropped-entry) (entries_of L t₁))))

  module _ (start : ℕ) (h : Passes (judge L start t₁)) where
    meant-passes : Passes (judge L start (meaning t₁))
    meant-passes = record { given = map_model nothing h.given; is = judge-map nothing L start t₁ ∙ ap (map_check (map_model nothing)) h.is }

    dropped-passes : Passes (judge L start (drop_root L (meaning t₁)))
    dropped-passes = record { given = meant-passes.given; is = sym (judge-alike L start (drop_root-alike L (meaning t₁))) ∙ meant-passes.is }

    -- Req 06
    pub moved-entries : RootMoved L (meaning t₁) (meaning t₂) → EntriesRelated ComponentMoved
    moved-entries r =
        along-lists whole-entry whole-entry ComponentMoved (entries_of L t₁) (entries_of L t₂)
        (rw (← meant t₁, ← meant t₂) (entries-moved L start (meaning t₁) (meaning t₂) r meant-passes))

    -- both
    pub alike-entries : Same L t₁ t₂ → EntriesRelated (AlikeEntry L)
    alike-entries r =
        along-lists dropped-entry dropped-entry ComponentMoved (entries_of L t₁) (entries_of L t₂)
        (rw (← dropped t₁, ← dropped t₂) (entries-moved L start (drop_root L (meaning t₁)) (drop_root L (meaning t₂)) r dropped-passes))
