-- What an accepted manifest says, whatever the layout: all that 1.2.0's judgement asks of names, texts, types, ranks, counts, codes and formats. So a model imported from another
-- layout breaks no rule when it is written.
use Prim.Native.Nat.{ℕ, zero, suc, ◌+◌, ◌%◌, ◌<◌, ◌≤◌}
use native.Mathlib.Omega.{arith}
use mathlib.Core.List.{List, [], ◌∷◌, map}
use mathlib.Core.Bool.{Bool, true, false, cond, ◌&&◌}
use mathlib.Core.Option.{Option, none, some}
use mathlib.Core.Path.{◌≡◌, refl, ap, ap₂, sym, ◌∙◌, subst}
use lib.ListN.{length, take, drop, length-map}
use lib.Dec.{eqb, leb}
use Rattle.meaning.specs.Tree.{Node}
use Rattle.meaning.specs.Read.{manifest, span_to}
use Rattle.meaning.specs.Check.{Check, pass, refuse, ◌>>=◌, ◌>>◌, ◌unless◌, in_object, in_component, required, required_in, optional, each}
use Rattle.meaning.specs.Text.{all, utf8, distinct, same}
use Rattle.meaning.specs.Refusal.{TEXT, TYPE, ALIGN, BOUNDS, COUNT, TWICE}
use Rattle.meaning.specs.Limit.{object_limit, component_limit, rank_limit, alignment}
use Rattle.meaning.specs.Model.{Word, Named, Component, Object, Model}
use Rattle.meaning.specs.Kind.{a_number, a_mapping, a_list, a_word, a_text, present}
use Rattle.meaning.specs.Layouts.{Layout, slot, dtype_at}
use Rattle.meaning.specs.Types.{storages, code_from, u64, logicals, listed, fits_over}
use Rattle.meaning.specs.Field.{root_fields, object_fields, component_fields, name_of, names}
use Rattle.meaning.specs.Format.{format_rules}
use Rattle.meaning.specs.Frame.{frame, checked, Reading, reading}
use Rattle.meaning.proofs.Checks.{pass_same, refused-is-not}
use Rattle.meaning.proofs.JudgeNatural.{all_map}
use Rattle.meaning.specs.Judge.{code_or, is_index, or_else, a_dtype, a_type, raw, attributes_of, inherited, a_version, part, shape_of, component, components_of, object, objects_of, judge}
use Rattle.meaning.specs.Every.{Every, IfAny}

-- if it passes, then so
pub data Ensures {A : Type 0} (Q : A → Type 0) : Check A → Type 0 where
  passed : {a : A} → Q a → Ensures Q (pass a)
  refusal : {n o c : ℕ} → Ensures Q (refuse n o c)

module _ {A B : Type 0} {Q : B → Type 0} where
  bind-ensures : {R : A → Type 0} {m : Check A} (k : A → Check B) → Ensures R m → ((a : A) → R a → Ensures Q (k a)) → Ensures Q (m >>= k)
  bind-ensures k (passed {a = a} r) h = h a r
  bind-ensures k refusal h = refusal

  after : (m : Check A) (k : A → Check B) → ((a : A) → m ≡ pass a → Ensures Q (k a)) → Ensures Q (m >>= k)
  after (pass a) k h = h a refl
  after (refuse n o c) k h = refusal

  past : (m : Check A) {k : Check B} → Ensures Q k → Ensures Q (m >> k)
  past (pass a) h = h
  past (refuse n o c) h = refusal

module _ {B : Type 0} {Q : B → Type 0} where
  tested : (n : ℕ) (b : Bool) (k : Check B) → (b ≡ true → Ensures Q k) → Ensures Q ((n unless b) >> k)
  tested n true k h = h refl
  tested n false k h = refusal

  component-ensures : (j : ℕ) {m : Check B} → Ensures Q m → Ensures Q (in_component j m)
  component-ensures j (passed h) = passed h
  component-ensures j refusal = refusal

  ruled : (m : Check (Unit {0})) (k : Check B) → (m ≡ pass tt → Ensures Q k) → Ensures Q (m >> k)
  ruled (pass u) k h = h refl
  ruled (refuse n o c) k h = refusal

  weaken : {R : B → Type 0} {m : Check B} → ((b : B) → R b → Q b) → Ensures R m → Ensures Q m
  weaken h (passed {a = a} r) = passed (h a r)
  weaken h refusal = refusal

  object-ensures : (j : ℕ) {m : Check B} → Ensures Q m → Ensures Q (in_object j m)
  object-ensures j (passed h) = passed h
  object-ensures j refusal = refusal

optional-ensures : {A B : Type 0} {Q : B → Type 0} (f : A → Check B) → ((a : A) → Ensures Q (f a)) → (o : Option A) → Ensures (IfAny Q) (optional f o)
optional-ensures f h none = passed tt
optional-ensures f h (some a) = bind-ensures (λ b. pass (some b)) (h a) λ b r. passed r

-- a storage code
abbrev Code : ℕ → Type 0
Code c = c < length storages

code-bound : (i : ℕ) (ns : List (List ℕ)) (n : List ℕ) (c : ℕ) → code_from i ns n ≡ some c → c < i + length ns
unfolding code_from
code-bound i [] n c e = absurd (let z : ◌≡◌ {A = ℕ} 0 1 = cc in omega arith)
code-bound i (s ∷ ns) n c e = go (same s n) e (code-bound (suc i) ns n c)
  where
    go : (b : Bool) → cond b (some i) (code_from (suc i) ns n) ≡ some c → (code_from (suc i) ns n ≡ some c → c < suc i + length ns) → c < i + suc (length ns)
    go true h r = let z : i ≡ c = cc in omega arith
    go false h r = let z = r h in omega arith

u64-code : Code u64
unfolding u64 storages
u64-code = omega arith

inherited-code : (f : List ℕ) (d : Option ℕ) → IfAny Code d → (r : List ℕ) → IfAny Code (inherited f d r)
unfolding inherited
inherited-code f none h r = tt
inherited-code f (some c) h r = go (is_index f r)
  where
    go : (b : Bool) → Code (cond b u64 c)
    go true = u64-code
    go false = h

either-code : (own above : Option ℕ) → IfAny Code own → IfAny Code above → Ensures Code (required (or_else own above))
unfolding or_else
either-code none none h k = refusal
either-code none (some c) h k = passed k
either-code (some c) above h k = passed h

dtype-code : (L : Layout) {P : Type 0} (t : Node P) → Ensures Code (a_dtype L t)
unfolding a_dtype code_or
dtype-code L t = after (a_word t) _ λ w e. go w.letters (code_from 0 L.dtypes w.letters) refl
  where
    go : (n : List ℕ) (o : Option ℕ) → code_from 0 L.dtypes n ≡ o → Ensures Code (code_or o)
    go n none e = refusal
    go n (some c) e = let b = code-bound 0 L.dtypes n c e in let l = L.all_named in passed {a = c} (omega (arith, b, l))

-- names within a limit, UTF-8 and distinct
pub record NamesSound (limit : ℕ) (ns : List (List ℕ)) : Type 0 where
  pub text : all utf8 ns ≡ true
  pub few : leb (length ns) limit ≡ true
  pub once : distinct ns ≡ true

module _ {P : Type 0} where
  abbrev pub Utf8 : Word P → Type 0
  Utf8 w = utf8 w.letters ≡ true

  pub record TypeSound (code : ℕ) (w : Word P) : Type 0 where
    pub text : Utf8 w
    pub fits : fits_over code (listed logicals w.letters) ≡ true

  pub record ComponentSound (start : ℕ) (c : Component P) : Type 0 where
    pub code : c.dtype < length storages
    pub type : IfAny (TypeSound c.dtype) c.type
    pub digest : IfAny Utf8 c.digest
    pub aligned : eqb (c.offset % alignment) 0 ≡ true
    pub inside : (leb alignment c.offset && leb (c.offset + c.length) start) ≡ true

  pub record ObjectSound (start : ℕ) (o : Object P) : Type 0 where
    pub rank : leb (length o.shape) rank_limit ≡ true
    pub format : Utf8 o.format
    pub names : NamesSound component_limit (map (λ c. c.name.letters) o.components)
    pub components : Every (ComponentSound start) o.components
    pub rules : format_rules o.format.letters o.shape (map part o.components) ≡ pass tt

  pub record ModelSound (start : ℕ) (m : Model P) : Type 0 where
    pub names : NamesSound object_limit (map (λ o. o.name.letters) m.objects)
    pub objects : Every (ObjectSound start) m.objects

  text-ensures : (t : Node P) → Ensures Utf8 (a_text t)
  unfolding a_text
  text-ensures t = after (a_word t) _ λ w e. tested TEXT (utf8 w.letters) _ λ h. passed h

  type-ensures : (d : ℕ) (t : Node P) → Ensures (TypeSound d) (a_type d t)
  unfolding a_type
  type-ensures d t = bind-ensures _ (text-ensures t) λ w u. tested TYPE (fits_over d (listed logicals w.letters)) _ λ h. passed (record { text = u; fits = h })

  -- a component keeps its name
  abbrev NamedSound : ℕ → Named P → Component P → Type 0
  NamedSound start n c = (c.name ≡ n.name) × ComponentSound start c

  component-sound : (L : Layout) (start : ℕ) (above : Option ℕ) → IfAny Code above → (n : Named P) → Ensures (NamedSound start n) (component L start above n)
  unfolding component
  component-sound L start above given n =
      after (component_fields L.component n.value) _ λ c e₁.
      after (required_in (slot dtype_at L.component) c.dtype) _ λ dtype e₂.
      after (required c.offset) _ λ offset e₃.
      after (required c.length) _ λ length e₄.
      bind-ensures _ (optional-ensures (a_dtype L) (dtype-code L) dtype) λ own ho.
      bind-ensures _ (either-code own above ho given) λ d hd.
      bind-ensures _ (optional-ensures (a_type d) (type-ensures d) (present c.type)) λ t ht.
      after (a_number offset) _ λ o e₇.
      after (a_number length) _ λ l e₈.
      past (optional a_number (present c.uncompressed-length)) (past (optional raw c.encoding)
      (bind-ensures _ (optional-ensures a_text text-ensures (present c.digest)) λ g hg.
      tested ALIGN (eqb (o % alignment) 0) _ λ h₁. tested BOUNDS (leb alignment o && leb (o + l) start) _ λ h₂.
      passed (refl, record { code = hd; type = ht; digest = hg; aligned = h₁; inside = h₂ })))

-- each in turn: the results keep the names, and each is sound
module _ {A B : Type 0} (key_a : A → List ℕ) (key_b : B → List ℕ) (Q : B → Type 0) (g : ℕ → A → Check B)
    (h : (i : ℕ) (a : A) → Ensures (λ b. (key_b b ≡ key_a a) × Q b) (g i a)) where
  each-ensures : (i : ℕ) (l : List A) → Ensures (λ m. (map key_b m ≡ map key_a l) × Every Q m) (each g i l)
  each-ensures i [] = passed (refl, tt)
  each-ensures i (a ∷ l) =
      bind-ensures _ (h i a) λ b r. bind-ensures _ (each-ensures (suc i) l) λ m s.
      passed (ap₂ {C = List (List ℕ)} (λ x y. x ∷ y) r.0 s.0, (r.1, s.1))

module _ {P : Type 0} where
  names-ensures : (limit : ℕ) (t : Node P) → Ensures (λ ns. NamesSound limit (map (λ n. n.name.letters) ns)) (names limit t)
  unfolding names
  names-ensures limit t =
      after (a_mapping t) _ λ ps e. after (each (λ i. name_of) 0 ps) _ λ ns f.
      tested TEXT (all (λ n. utf8 n.name.letters) ns) _ λ h₁. tested COUNT (leb (length ns) limit) _ λ h₂. tested TWICE (distinct (map (λ n. n.name.letters) ns)) _ λ h₃.
      passed (record {
        text = all_map (λ n. n.name.letters) utf8 ns ∙ h₁;
        few = rw (length-map ns (λ n. n.name.letters)) h₂;
        once = h₃;
      })

  components-sound : (L : Layout) (start : ℕ) (above : List ℕ → Option ℕ) → ((r : List ℕ) → IfAny Code (above r)) → (t : Node P)
      → Ensures (λ cs. NamesSound component_limit (map (λ c. c.name.letters) cs) × Every (ComponentSound start) cs) (components_of L start above t)
  unfolding components_of
  components-sound L start above given t =
      bind-ensures _ (names-ensures component_limit t) λ ns h.
      weaken (λ cs r. (rw r.0 h, r.1))
      (each-ensures (λ n. n.name.letters) (λ c. c.name.letters) (ComponentSound start) (λ j c. in_component j (component L start (above c.name.letters) c))
      (λ j c. component-ensures j (weaken (λ d r. (ap (λ w. w.letters) r.0, r.1)) (component-sound L start (above c.name.letters) (given c.name.letters) c))) 0 ns)

  shape-ensures : (t : Node P) → Ensures (λ s. leb (length s) rank_limit ≡ true) (shape_of t)
  unfolding shape_of
  shape-ensures t = after (a_list t) _ λ dims e. after (each (λ i. a_number) 0 dims) _ λ s f. tested COUNT (leb (length s) rank_limit) _ λ h. passed h

  object-sound : (L : Layout) (start : ℕ) (n : Named P) → Ensures (λ o. (o.name.letters ≡ n.name.letters) × ObjectSound start o) (object L start n)
  unfolding object
  object-sound L start n =
      after (object_fields L.object n.value) _ λ o e₁.
      after (required_in (slot dtype_at L.object) o.dtype) _ λ dtype e₂.
      after (required o.shape) _ λ shape e₃.
      after (required o.format) _ λ format e₄.
      after (required o.components) _ λ components e₅.
      bind-ensures _ (optional-ensures (a_dtype L) (dtype-code L) dtype) λ d hd.
      bind-ensures _ (shape-ensures shape) λ s hs.
      bind-ensures _ (text-ensures format) λ f hf.
      after (optional attributes_of o.attributes) _ λ a e₇.
      bind-ensures _ (components-sound L start (inherited f.letters d) (inherited-code f.letters d hd) components) λ cs hc.
      ruled (format_rules f.letters s (map part cs)) _ λ h.
      passed (refl, record { rank = hs; format = hf; names = hc.0; components = hc.1; rules = h })

  objects-sound : (L : Layout) (start : ℕ) (t : Node P) → Ensures (λ os. NamesSound object_limit (map (λ o. o.name.letters) os) × Every (ObjectSound start) os) (objects_of L start t)
  unfolding objects_of
  objects-sound L start t =
      bind-ensures _ (names-ensures object_limit t) λ ns h.
      weaken (λ os r. (rw r.0 h, r.1))
      (each-ensures (λ n. n.name.letters) (λ o. o.name.letters) (ObjectSound start) (λ i o. in_object i (object L start o)) (λ i o. object-ensures i (object-sound L start o)) 0 ns)

  -- In any layout, what an accepted manifest says is sound.
  pub accepted-sound : (L : Layout) (start : ℕ) (t : Node P) → Ensures (ModelSound start) (judge L start t)
  unfolding judge
  accepted-sound L start t =
      after (root_fields L.root t) _ λ r e₁.
      after (required r.version) _ λ version e₂.
      past (a_version version)
      (after (optional attributes_of r.attributes) _ λ a e₃.
      after (required r.objects) _ λ objects e₄.
      bind-ensures _ (objects-sound L start objects) λ os h.
      passed (record { names = h.0; objects = h.1 }))

-- and so of a file that is accepted
pub ensured : {A : Type 0} {Q : A → Type 0} {m : Check A} {a : A} → Ensures Q m → m ≡ pass a → Q a
ensured {A} {Q} (passed h) e = subst Q (pass_same e) h
ensured refusal e = absurd (refused-is-not e)

pub reading-sound : (L : Layout) (file : List ℕ) (r : Reading) → reading L file ≡ pass r → ModelSound r.start r.model
unfolding reading
reading-sound L file r e = ensured ensures e
  where
    ensures : Ensures (λ (r : Reading). ModelSound r.start r.model) (reading L file)
    ensures =
        after (frame L file) _ λ f _. after (checked (manifest (span_to (f.start + f.size)) (take f.size (drop f.start file)))) _ λ t _.
        bind-ensures _ (accepted-sound L f.start t) λ m h. passed h
