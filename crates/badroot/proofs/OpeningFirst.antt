-- The order of a manifest's checks is the opening's, then the objects' own: if a check of the opening breaks, it is the manifest's; if none does, the objects' names pass and the first that breaks
-- is an object's.
use Prim.Native.Nat.{ℕ}
use mathlib.Core.List.{List, ◌++◌, append_assoc}
use mathlib.Core.Option.{Option, none, some}
use mathlib.Core.Path.{◌≡◌, refl, ap, sym, ◌∙◌}
use native.Mathlib.Omega.{arith}
use Rattle.meaning.specs.Tree.{Node, Pair}
use Rattle.meaning.specs.Check.{Check, pass, refuse}
use Rattle.meaning.specs.Limit.{object_limit}
use Rattle.meaning.specs.Model.{Named}
use Rattle.meaning.specs.Kind.{Kind, number, words, list, mapping, null, another, kind, a_mapping, as_mapping}
use Rattle.meaning.specs.Layouts.{Layout}
use Rattle.meaning.specs.Field.{is_some, field, fields, names}
use Rattle.explained.specs.Fields.{root, version_of, attributes_on, objects_field}
use Rattle.explained.specs.Step.{Step, ◌>>=◌, first, refusal, given}
use Rattle.explained.specs.Order.{mapping_steps, version_steps, field_steps, missing, name_steps, objects_steps, manifest_steps}
use Rattle.explained.proofs.Agree.{Agree, verdict}
use Rattle.explained.proofs.Parts.{agree-fields, fields-pairs, agree-names}
use Rattle.explained.proofs.Why.{or_else, first-++}
use Rattle.badfields.proofs.Firsts.{broken-first, none_first}
use Rattle.badroot.specs.Opening.{later_steps, value_steps, opening_steps, each_object, Opened}

-- ---------------------------------------------------------------- one list after the other

under : {A : Type 0} (s : List A) {x : List A} (y z : List A) → x ≡ y ++ z → s ++ x ≡ (s ++ y) ++ z
under {A} s y z e = ap {B = List A} (λ u. s ++ u) e ∙ sym (append_assoc s y z)

module _ {P A : Type 0} where
  where_found : (v : Option A) (f g h : A → List (Step P)) → ((a : A) → f a ≡ g a ++ h a) → (v >>= f) ≡ (v >>= g) ++ (v >>= h)
  where_found none f g h e = refl
  where_found (some a) f g h e = e a

module _ {P : Type 0} (L : Layout) (start : ℕ) (t : Node P) where
  -- the checks of the objects, where they are reached
  abbrev after_names : Node P → List (Step P)
  after_names o = given (names object_limit o) >>= each_object L start

  abbrev after_version : List (Pair P) → List (Step P)
  after_version ps = field (objects_field L) ps >>= after_names

  abbrev after_fields : List (Pair P) → List (Step P)
  after_fields ps = field (version_of L) ps >>= λ v. after_version ps

  abbrev pub own_steps : List (Step P)
  own_steps = given (a_mapping t) >>= after_fields

  pub manifest-split : manifest_steps L start t ≡ opening_steps L t ++ own_steps
  unfolding manifest_steps objects_steps opening_steps value_steps later_steps each_object
  manifest-split =
      under (field_steps L.root t) (given (a_mapping t) >>= value_steps L t) own_steps
      (where_found (given (a_mapping t)) _ (value_steps L t) after_fields λ ps.
      under (missing t (field (version_of L) ps)) (field (version_of L) ps >>= λ v. version_steps v ++ later_steps L t ps) (after_fields ps)
      (where_found (field (version_of L) ps) _ (λ v. version_steps v ++ later_steps L t ps) (λ v. after_version ps) λ v.
      under (version_steps v) (later_steps L t ps) (after_version ps)
      (under (field (attributes_on L root) ps >>= mapping_steps) (missing t (field (objects_field L) ps) ++ (field (objects_field L) ps >>= name_steps object_limit)) (after_version ps)
      (under (missing t (field (objects_field L) ps)) (field (objects_field L) ps >>= name_steps object_limit) (after_version ps)
      (where_found (field (objects_field L) ps) _ (name_steps object_limit) after_names λ o. refl)))))

  own-are : (ps : List (Pair P)) (v o : Node P) (ns : List (Named P)) → given (a_mapping t) ≡ some ps → field (version_of L) ps ≡ some v → field (objects_field L) ps ≡ some o → names object_limit o ≡ pass ns
      → own_steps ≡ each_object L start ns
  own-are ps v o ns a b c d = rw (a, b, c, d) refl

-- ---------------------------------------------------------------- where none breaks

record Passes {A : Type 0} (m : Check A) : Type 0 where
  pub value : A
  pub is : m ≡ pass value

record Found {A : Type 0} (v : Option A) : Type 0 where
  pub value : A
  pub is : v ≡ some value

module _ {P : Type 0} where
  both-none : (s r : List (Step P)) → first (s ++ r) ≡ none → (first s ≡ none) × (first r ≡ none)
  unfolding or_else
  both-none s r e = go (first s) (sym (first-++ s r) ∙ e)
    where
      go : (f : Option (Step P)) → or_else f (first r) ≡ none → (f ≡ none) × (first r ≡ none)
      go none e = (refl, e)
      go (some x) e = absurd (let z : ◌≡◌ {A = ℕ} 0 1 = cc in omega arith)

  none_passes : {A : Type 0} (s : List (Step P)) (m : Check A) → Agree s m → first s ≡ none → Passes m
  none_passes {A} s m a e = go m refl (sym a.same ∙ ap refusal e)
    where
      go : (k : Check A) → m ≡ k → verdict k ≡ pass tt → Passes m
      go (pass x) h r = record { value = x; is = h }
      go (refuse n o c) h r = absurd (let z : ◌≡◌ {A = ℕ} 0 1 = cc in omega arith)

  none-missing : {A : Type 0} (t : Node P) (v : Option A) → first (missing t v) ≡ none → Found v
  unfolding missing is_some
  none-missing t none e = absurd (let z : ◌≡◌ {A = ℕ} 0 1 = cc in omega arith)
  none-missing t (some a) e = record { value = a; is = refl }

  given-kind : (k : Kind P) (ps : List (Pair P)) → given (as_mapping k) ≡ some ps → k ≡ mapping ps
  unfolding as_mapping
  given-kind (number n) ps e = absurd (let z : ◌≡◌ {A = ℕ} 0 1 = cc in omega arith)
  given-kind (words w) ps e = absurd (let z : ◌≡◌ {A = ℕ} 0 1 = cc in omega arith)
  given-kind (list l) ps e = absurd (let z : ◌≡◌ {A = ℕ} 0 1 = cc in omega arith)
  given-kind (mapping l) ps e = let z : l ≡ ps = cc in ap mapping z
  given-kind null ps e = absurd (let z : ◌≡◌ {A = ℕ} 0 1 = cc in omega arith)
  given-kind another ps e = absurd (let z : ◌≡◌ {A = ℕ} 0 1 = cc in omega arith)

  given-table : (t : Node P) (ps : List (Pair P)) → given (a_mapping t) ≡ some ps → kind t ≡ mapping ps
  unfolding a_mapping
  given-table t ps e = given-kind (kind t) ps e

module _ {P : Type 0} (L : Layout) (start : ℕ) (t : Node P) where
  pub opening-breaks : (x : Step P) → first (opening_steps L t) ≡ some x → first (manifest_steps L start t) ≡ some x
  opening-breaks x e = ap first (manifest-split L start t) ∙ broken-first (opening_steps L t) (own_steps L start t) x e

  pub opening-passes : first (opening_steps L t) ≡ none → Opened L start t
  unfolding opening_steps value_steps later_steps
  opening-passes e =
      let a = both-none (field_steps L.root t) (given (a_mapping t) >>= value_steps L t) e in
      let f = none_passes (field_steps L.root t) (fields L.root t) (agree-fields L.root t) a.0 in
      let ps = f.value in
      let g : given (a_mapping t) ≡ some ps = fields-pairs L.root t ps f.is in
      let b : first (value_steps L t ps) ≡ none = sym (ap (λ (x : Option (List (Pair P))). first (x >>= value_steps L t)) g) ∙ a.1 in
      let c = both-none (missing t (field (version_of L) ps)) (field (version_of L) ps >>= λ v. version_steps v ++ later_steps L t ps) b in
      let v = none-missing t (field (version_of L) ps) c.0 in
      let d : first (version_steps v.value ++ later_steps L t ps) ≡ none = sym (ap (λ (x : Option (Node P)). first (x >>= λ v. version_steps v ++ later_steps L t ps)) v.is) ∙ c.1 in
      let h = both-none (version_steps v.value) (later_steps L t ps) d in
      let i = both-none (field (attributes_on L root) ps >>= mapping_steps) (missing t (field (objects_field L) ps) ++ (field (objects_field L) ps >>= name_steps object_limit)) h.1 in
      let j = both-none (missing t (field (objects_field L) ps)) (field (objects_field L) ps >>= name_steps object_limit) i.1 in
      let o = none-missing t (field (objects_field L) ps) j.0 in
      let k : first (name_steps object_limit o.value) ≡ none = sym (ap (λ (x : Option (Node P)). first (x >>= name_steps object_limit)) o.is) ∙ j.1 in
      let n = none_passes (name_steps object_limit o.value) (names object_limit o.value) (agree-names object_limit o.value) k in
      let own = own-are L start t ps v.value o.value n.value g v.is o.is n.is in
      record {
        pairs = ps;
        objects = o.value;
        named = n.value;
        kind-is = given-table t ps g;
        found = o.is;
        names-are = n.is;
        rest = ap first (manifest-split L start t) ∙ none_first (opening_steps L t) (own_steps L start t) e ∙ ap first own;
      }
