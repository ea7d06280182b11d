-- A dropped object's number and component are those that the reader gives to the same manifest with that object moved to the front, where its index is 0.
use Prim.Native.Nat.{ℕ, zero, suc, ◌+◌}
use native.Mathlib.Omega.{arith}
use mathlib.Core.List.{List, [], ◌∷◌, map}
use mathlib.Core.Bool.{Bool, true, false, cond, ◌&&◌}
use mathlib.Core.Option.{Option, none, some}
use mathlib.Core.Path.{◌≡◌, refl, ap, ap₂, ◌∙◌}
use lib.ListN.{length}
use lib.Dec.{leb}
use Rattle.meaning.specs.Refusal.{KEY, TEXT, TWICE, COUNT}
use Rattle.meaning.specs.Limit.{object_limit}
use Rattle.meaning.specs.Tree.{Node, Pair}
use Rattle.meaning.specs.Text.{same, one_of, distinct, all, utf8}
use Rattle.meaning.specs.Check.{Check, pass, refuse, ◌>>=◌, ◌>>◌, ◌unless◌, required, optional, each}
use Rattle.meaning.specs.Notes.{map_check, map_option}
use Rattle.meaning.specs.Model.{RootFields, Named, Object}
use Rattle.meaning.specs.Layouts.{Slots, slot, somes, Layout, objects_at}
use Rattle.meaning.specs.Kind.{a_mapping}
use Rattle.meaning.specs.Field.{is_some, key_of, count, field, fields, root_fields, name_of, names}
use Rattle.meaning.specs.Judge.{attributes_of, a_version, object, judge}
use Rattle.meaning.specs.Drop.{in_map, on_field}
use Rattle.meaning.proofs.DropFields.{field-changed, value_same, key-same, value-apart, a_table-in_map}
use Rattle.meaning.proofs.FieldsAlike.{named-key}
use Rattle.meaning.proofs.SameText.{same-turned}
use Rattle.meaning.specs.Every.{Every}
use Rattle.roundtrip.proofs.If.{If}
use Rattle.roundtrip.proofs.AcceptedJudged.{Beside, each-beside}
use Rattle.rescuing.specs.Sift.{Dropped, Opened, opened, dropped, verdicts}
use Rattle.rescuing.proofs.RootFirst.{judge-opened}

-- ---- a list with its i-th put first, the others in order behind it

module _ {A : Type 0} where
  abbrev behind : A → List A → List A
  behind a [] = a ∷ []
  behind a (b ∷ l) = b ∷ a ∷ l

  abbrev pub to_front : ℕ → List A → List A
  to_front i [] = []
  to_front zero (a ∷ l) = a ∷ l
  to_front (suc i) (a ∷ l) = behind a (to_front i l)

module _ {A B : Type 0} (f : A → B) where
  map-behind : (a : A) (l : List A) → map f (behind a l) ≡ behind (f a) (map f l)
  map-behind a [] = refl
  map-behind a (b ∷ l) = refl

  map-front : (i : ℕ) (l : List A) → map f (to_front i l) ≡ to_front i (map f l)
  map-front zero [] = refl
  map-front (suc i) [] = refl
  map-front zero (a ∷ l) = refl
  map-front (suc i) (a ∷ l) = map-behind a (to_front i l) ∙ ap (behind (f a)) (map-front i l)

module _ {A : Type 0} where
  length-behind : (a : A) (l : List A) → length (behind a l) ≡ suc (length l)
  length-behind a [] = refl
  length-behind a (b ∷ l) = refl

  length_front : (i : ℕ) (l : List A) → length (to_front i l) ≡ length l
  length_front zero [] = refl
  length_front (suc i) [] = refl
  length_front zero (a ∷ l) = refl
  length_front (suc i) (a ∷ l) = length-behind a (to_front i l) ∙ ap suc (length_front i l)

  all-behind : (q : A → Bool) (a : A) (l : List A) → all q (behind a l) ≡ (q a && all q l)
  all-behind q a [] = refl
  all-behind q a (b ∷ l) = by (q a) (q b)
    where
      by : (s t : Bool) → (t && (s && all q l)) ≡ (s && (t && all q l))
      by true true = refl
      by true false = refl
      by false true = refl
      by false false = refl

  all-front : (q : A → Bool) (i : ℕ) (l : List A) → all q (to_front i l) ≡ all q l
  all-front q zero [] = refl
  all-front q (suc i) [] = refl
  all-front q zero (a ∷ l) = refl
  all-front q (suc i) (a ∷ l) = all-behind q a (to_front i l) ∙ ap (λ (b : Bool). q a && b) (all-front q i l)

-- ---- names, none twice

one-behind : (x a : List ℕ) (l : List (List ℕ)) → one_of (behind a l) x ≡ one_of (a ∷ l) x
one-behind x a [] = refl
one-behind x a (b ∷ l) = by (same a x) (same b x)
  where
    by : (s t : Bool) → cond t true (cond s true (one_of l x)) ≡ cond s true (cond t true (one_of l x))
    by true true = refl
    by true false = refl
    by false true = refl
    by false false = refl

one-front : (x : List ℕ) (i : ℕ) (l : List (List ℕ)) → one_of (to_front i l) x ≡ one_of l x
one-front x zero [] = refl
one-front x (suc i) [] = refl
one-front x zero (a ∷ l) = refl
one-front x (suc i) (a ∷ l) = one-behind x a (to_front i l) ∙ ap (λ (b : Bool). cond (same a x) true b) (one-front x i l)

distinct-behind : (a : List ℕ) (l : List (List ℕ)) → distinct (behind a l) ≡ distinct (a ∷ l)
distinct-behind a [] = refl
distinct-behind a (b ∷ l) = rw (same-turned b a) (by (same a b) (one_of l a) (one_of l b))
  where
    by : (s t u : Bool) → cond (cond s true u) false (cond t false (distinct l)) ≡ cond (cond s true t) false (cond u false (distinct l))
    by true t u = refl
    by false true true = refl
    by false true false = refl
    by false false true = refl
    by false false false = refl

distinct-front : (i : ℕ) (l : List (List ℕ)) → distinct (to_front i l) ≡ distinct l
distinct-front zero [] = refl
distinct-front (suc i) [] = refl
distinct-front zero (a ∷ l) = refl
distinct-front (suc i) (a ∷ l) = distinct-behind a (to_front i l) ∙ ap₂ (λ (b c : Bool). cond b false c) (one-front a i l) (distinct-front i l)

every-so : {A : Type 0} (Q R : A → Type 0) → ((a : A) → Q a → R a) → (l : List A) → Every Q l → Every R l
every-so Q R f [] h = tt
every-so Q R f (a ∷ l) (h, hs) = (f a h, every-so Q R f l hs)

-- ---- each that passes

module _ {A B : Type 0} (f : A → Check B) where
  abbrev EachPasses : List A → List B → Type 0
  EachPasses = Beside (λ a b. f a ≡ pass b)

  passes-each : (i : ℕ) (l : List A) (bs : List B) → EachPasses l bs → each (λ i. f) i l ≡ pass bs
  passes-each i [] [] h = refl
  passes-each i [] (b ∷ bs) h = absurd h
  passes-each i (a ∷ l) [] h = absurd h
  passes-each i (a ∷ l) (b ∷ bs) (h, hs) = rw (h, passes-each (suc i) l bs hs) refl

  each-passes : (i : ℕ) (l : List A) → If (EachPasses l) (each (λ i. f) i l)
  each-passes = each-beside (λ a b. f a ≡ pass b) (λ i. f) (λ i a. own (f a))
    where
      own : (k : Check B) → If (λ b. k ≡ pass b) k
      own (pass b) = record { is = refl }
      own (refuse n o c) = record { is = tt }

  passes-behind : (a : A) (l : List A) (b : B) (bs : List B) → f a ≡ pass b → EachPasses l bs → EachPasses (behind a l) (behind b bs)
  passes-behind a [] b [] h k = (h, tt)
  passes-behind a [] b (c ∷ bs) h k = absurd k
  passes-behind a (d ∷ l) b [] h k = absurd k
  passes-behind a (d ∷ l) b (c ∷ bs) h (k, ks) = (k, (h, ks))

  passes-front : (i : ℕ) (l : List A) (bs : List B) → EachPasses l bs → EachPasses (to_front i l) (to_front i bs)
  passes-front i [] (b ∷ bs) h = absurd h
  passes-front i (a ∷ l) [] h = absurd h
  passes-front zero [] [] h = tt
  passes-front (suc i) [] [] h = tt
  passes-front zero (a ∷ l) (b ∷ bs) h = h
  passes-front (suc i) (a ∷ l) (b ∷ bs) (h, hs) = passes-behind a (to_front i l) b (to_front i bs) h (passes-front i l bs hs)

-- ---- names of a map whose i-th pair is put first

module _ {P : Type 0} where
  names-judged : ℕ → List (Named P) → Check (List (Named P))
  names-judged limit ns = TEXT unless all (λ n. utf8 n.name.letters) ns >> (COUNT unless leb (length ns) limit >> (TWICE unless distinct (map (λ n. n.name.letters) ns) >> pass ns))

  names-judged-front : (limit i : ℕ) (ms ns : List (Named P)) → names-judged limit ms ≡ pass ns → names-judged limit (to_front i ms) ≡ pass (to_front i ns)
  unfolding names-judged
  names-judged-front limit i ms ns h =
      rw (all-front (λ (n : Named P). utf8 n.name.letters) i ms, length_front i ms, map-front (λ (n : Named P). n.name.letters) i ms, distinct-front i (map (λ n. n.name.letters) ms))
      (by (all (λ n. utf8 n.name.letters) ms) (leb (length ms) limit) (distinct (map (λ n. n.name.letters) ms)) h)
    where
      by : (a b c : Bool) → (TEXT unless a >> (COUNT unless b >> (TWICE unless c >> pass ms))) ≡ pass ns → (TEXT unless a >> (COUNT unless b >> (TWICE unless c >> pass (to_front i ms)))) ≡ pass (to_front i ns)
      by true true true h = let e : ms ≡ ns = cc in ap (λ (l : List (Named P)). pass (to_front i l)) e
      by true true false h = cc
      by true false c h = cc
      by false b c h = cc

  names-front : (limit i : ℕ) (t : Node P) (ns : List (Named P)) → names limit t ≡ pass ns → names limit (in_map (to_front i) t) ≡ pass (to_front i ns)
  unfolding names names-judged
  names-front limit i t ns h = rw (a_table-in_map (to_front i) t) (by-table (a_mapping t) h)
    where
      by-each : (ps : List (Pair P)) (k : Check (List (Named P))) → If (EachPasses name_of ps) k → (k >>= names-judged limit) ≡ pass ns
          → (each (λ i. name_of) 0 (to_front i ps) >>= names-judged limit) ≡ pass (to_front i ns)
      by-each ps (pass ms) q h = rw (passes-each name_of 0 (to_front i ps) (to_front i ms) (passes-front name_of i ps ms q.is)) (names-judged-front limit i ms ns h)
      by-each ps (refuse n o c) q h = cc

      by-table : (k : Check (List (Pair P))) → (k >>= λ ps. each (λ i. name_of) 0 ps >>= names-judged limit) ≡ pass ns
          → (map_check (to_front i) k >>= λ ps. each (λ i. name_of) 0 ps >>= names-judged limit) ≡ pass (to_front i ns)
      by-table (pass ps) h = by-each ps (each (λ i. name_of) 0 ps) (each-passes name_of 0 ps) h
      by-table (refuse n o c) h = cc

-- ---- a root whose objects are changed

module _ {P : Type 0} (known : Slots) (apart : distinct (somes known) ≡ true) (at : ℕ) (g : Node P → Node P) where
  abbrev changed : Pair P → Pair P
  changed = on_field (slot at known) g

  count-changed : (n : List ℕ) (ps : List (Pair P)) → count n (map changed ps) ≡ count n ps
  unfolding count
  count-changed n [] = refl
  count-changed n (p ∷ ps) = rw (named-key n (changed p) p (key-same (slot at known) g p), count-changed n ps) refl

  keys-changed : (ps : List (Pair P)) → all (λ p. is_some (key_of p)) (map changed ps) ≡ all (λ p. is_some (key_of p)) ps
  unfolding on_field key_of
  keys-changed [] = refl
  keys-changed (p ∷ ps) = rw (keys-changed ps) refl

  counts-changed : (ns : List (List ℕ)) (ps : List (Pair P)) → all (λ n. leb (count n (map changed ps)) 1) ns ≡ all (λ n. leb (count n ps) 1) ns
  counts-changed [] ps = refl
  counts-changed (n ∷ ns) ps = rw (count-changed n ps, counts-changed ns ps) refl

  fields-changed : (t : Node P) → fields known (in_map (map changed) t) ≡ map_check (map changed) (fields known t)
  unfolding fields
  fields-changed t = rw (a_table-in_map (map changed) t) (by (a_mapping t))
    where
      tests : (a b : Bool) (ps : List (Pair P)) → (KEY unless a >> (TWICE unless b >> pass (map changed ps))) ≡ map_check (map changed) (KEY unless a >> (TWICE unless b >> pass ps))
      tests true true ps = refl
      tests true false ps = refl
      tests false b ps = refl

      by : (k : Check (List (Pair P))) → (map_check (map changed) k >>= λ ps. KEY unless all (λ p. is_some (key_of p)) ps >> (TWICE unless all (λ n. leb (count n ps) 1) (somes known) >> pass ps))
          ≡ map_check (map changed) (k >>= λ ps. KEY unless all (λ p. is_some (key_of p)) ps >> (TWICE unless all (λ n. leb (count n ps) 1) (somes known) >> pass ps))
      by (pass ps) = rw (keys-changed ps, counts-changed (somes known) ps) (tests (all (λ p. is_some (key_of p)) ps) (all (λ n. leb (count n ps) 1) (somes known)) ps)
      by (refuse n o c) = refl

  same-option : (o : Option (Node P)) → map_option (λ t. t) o ≡ o
  same-option none = refl
  same-option (some t) = refl

  field-here : (ps : List (Pair P)) → field (slot at known) (map changed ps) ≡ map_option g (field (slot at known) ps)
  field-here ps = field-changed (slot at known) changed g (key-same (slot at known) g) (value_same (slot at known) g) ps

  field-elsewhere : (i : ℕ) → (i ≡ at → ⊥) → (ps : List (Pair P)) → field (slot i known) (map changed ps) ≡ field (slot i known) ps
  field-elsewhere i ne ps =
      field-changed (slot i known) changed (λ t. t) (key-same (slot at known) g) (λ p h. value-apart known apart i at ne g p p refl h) ps ∙ same-option (field (slot i known) ps)

-- ---- the manifest with its i-th object moved to the front

module _ {P : Type 0} (L : Layout) where
  abbrev pub brought : ℕ → Node P → Node P
  brought i = in_map (map (on_field (slot objects_at L.root) (in_map (to_front i))))

  abbrev opened_with : Option (Node P) → List (Named P) → Check (Opened P)
  opened_with a ns = pass (record { attributes = a; named = ns })

  abbrev after_root : RootFields P → Check (Opened P)
  after_root r = do
    version ← required r.version
    a_version version
    a ← optional attributes_of r.attributes
    objects ← required r.objects
    ns ← names object_limit objects
    pass (record { attributes = a; named = ns })

  -- from the root's fields on, with the objects changed
  after-root-front : (i : ℕ) (version attributes objects : Option (Node P)) (o : Opened P) → after_root (record { version = version; attributes = attributes; objects = objects }) ≡ pass o
      → after_root (record { version = version; attributes = attributes; objects = map_option (in_map (to_front i)) objects }) ≡ pass (record { attributes = o.attributes; named = to_front i o.named })
  after-root-front i version attributes objects o = by-version (required version)
    where
      by_names : (a : Option (Node P)) (t : Node P) (k : Check (List (Named P))) → names object_limit t ≡ k → (k >>= opened_with a) ≡ pass o
          → (names object_limit (in_map (to_front i) t) >>= opened_with a) ≡ pass (record { attributes = o.attributes; named = to_front i o.named })
      by_names a t (pass ns) e h =
          let same : ◌≡◌ {A = Opened P} (record { attributes = a; named = ns }) o = cc in
          rw (names-front object_limit i t ns e) (ap (λ (o : Opened P). pass (record { attributes = o.attributes; named = to_front i o.named })) same)
      by_names a t (refuse n p c) e h = cc

      by-objects : (a : Option (Node P)) (t : Option (Node P)) → (required t >>= λ objects. names object_limit objects >>= opened_with a) ≡ pass o
          → (required (map_option (in_map (to_front i)) t) >>= λ objects. names object_limit objects >>= opened_with a)
          ≡ pass (record { attributes = o.attributes; named = to_front i o.named })
      by-objects a none h = cc
      by-objects a (some t) h = by_names a t (names object_limit t) refl h

      by-attributes : (k : Check (Option (Node P))) → (k >>= λ a. required objects >>= λ objects. names object_limit objects >>= opened_with a) ≡ pass o
          → (k >>= λ a. required (map_option (in_map (to_front i)) objects) >>= λ objects. names object_limit objects >>= opened_with a)
          ≡ pass (record { attributes = o.attributes; named = to_front i o.named })
      by-attributes (pass a) h = by-objects a objects h
      by-attributes (refuse n p c) h = cc

      by-major : (k : Check (Unit {0})) → (k >> (optional attributes_of attributes >>= λ a. required objects >>= λ objects. names object_limit objects >>= opened_with a)) ≡ pass o
          → (k >> (optional attributes_of attributes >>= λ a. required (map_option (in_map (to_front i)) objects) >>= λ objects. names object_limit objects >>= opened_with a))
          ≡ pass (record { attributes = o.attributes; named = to_front i o.named })
      by-major (pass u) h = by-attributes (optional attributes_of attributes) h
      by-major (refuse n p c) h = cc

      by-version : (k : Check (Node P))
          → (k >>= λ version. a_version version >> (optional attributes_of attributes >>= λ a. required objects >>= λ objects. names object_limit objects >>= opened_with a)) ≡ pass o
          → (k >>= λ version. a_version version >> (optional attributes_of attributes >>= λ a. required (map_option (in_map (to_front i)) objects) >>= λ objects. names object_limit objects >>= opened_with a))
          ≡ pass (record { attributes = o.attributes; named = to_front i o.named })
      by-version (pass version) h = by-major (a_version version) h
      by-version (refuse n p c) h = cc

  pub opened-brought : (i : ℕ) (t : Node P) (o : Opened P) → opened L t ≡ pass o → opened L (brought i t) ≡ pass (record { attributes = o.attributes; named = to_front i o.named })
  unfolding opened root_fields
  opened-brought i t o h = rw (fields-changed L.root L.root_apart objects_at (in_map (to_front i)) t) (by (fields L.root t) h)
    where
      apart_from : (j : ℕ) → (j ≡ 2 → ⊥) → (ps : List (Pair P)) → field (slot j L.root) (map (on_field (slot objects_at L.root) (in_map (to_front i))) ps) ≡ field (slot j L.root) ps
      apart_from j ne ps = field-elsewhere L.root L.root_apart objects_at (in_map (to_front i)) j ne ps

      by : (k : Check (List (Pair P))) → (k >>= (λ ps. pass (record { version = field (slot 0 L.root) ps; attributes = field (slot 1 L.root) ps; objects = field (slot 2 L.root) ps })) >>= after_root) ≡ pass o
          → (map_check (map (on_field (slot objects_at L.root) (in_map (to_front i)))) k
          >>= (λ ps. pass (record { version = field (slot 0 L.root) ps; attributes = field (slot 1 L.root) ps; objects = field (slot 2 L.root) ps })) >>= after_root)
          ≡ pass (record { attributes = o.attributes; named = to_front i o.named })
      by (pass ps) h =
          rw (apart_from 0 (λ e. omega (arith, e)) ps, apart_from 1 (λ e. omega (arith, e)) ps, field-here L.root L.root_apart objects_at (in_map (to_front i)) ps)
          (after-root-front i (field (slot 0 L.root) ps) (field (slot 1 L.root) ps) (field (slot 2 L.root) ps) o h)
      by (refuse n p c) h = cc

  -- ---- and its fault

  module _ (start : ℕ) where
    -- put first among these, the object is refused so
    record Fronted (ns : List (Named P)) (i : ℕ) (d : Dropped) : Type 0 where
      at : ℕ
      is : d.index ≡ i + at
      first : Named P
      others : List (Named P)
      front : to_front at ns ≡ first ∷ others
      owner : ℕ
      faulty : object L start first ≡ refuse d.number owner d.component

    fronted : (i : ℕ) (ns : List (Named P)) → Every (Fronted ns i) (dropped i (verdicts L start ns))
    unfolding dropped verdicts
    fronted i [] = tt
    fronted i (n ∷ ns) = by (object L start n) refl (every-so (Fronted ns (suc i)) (Fronted (n ∷ ns) i) further (dropped (suc i) (verdicts L start ns)) (fronted (suc i) ns))
      where
        further : (d : Dropped) → Fronted ns (suc i) d → Fronted (n ∷ ns) i d
        further d f = let e = f.is in record { at = suc f.at; is = omega (arith, e); first = f.first; others = n ∷ f.others; front = ap (behind n) f.front; owner = f.owner; faulty = f.faulty }

        by : (k : Check (Object P)) → object L start n ≡ k → Every (Fronted (n ∷ ns) i) (dropped (suc i) (verdicts L start ns)) → Every (Fronted (n ∷ ns) i) (dropped i (k ∷ verdicts L start ns))
        by (pass o) e h = h
        by (refuse m o c) e h = (record { at = 0; is = omega arith; first = n; others = ns; front = refl; owner = o; faulty = e }, h)

    -- the reader's refusal of the manifest with that object moved to the front, for every object that is dropped
    pub had-it-come-first : (t : Node P) (o : Opened P) → opened L t ≡ pass o
        → Every (λ d. judge L start (brought d.index t) ≡ refuse d.number 0 d.component) (dropped 0 (verdicts L start o.named))
    had-it-come-first t o h = every-so (Fronted o.named 0) _ told (dropped 0 (verdicts L start o.named)) (fronted 0 o.named)
      where
        told : (d : Dropped) → Fronted o.named 0 d → judge L start (brought d.index t) ≡ refuse d.number 0 d.component
        told d f =
            let is = f.is in let place : d.index ≡ f.at = omega (arith, is) in
            judge-opened L start (brought d.index t) ∙ rw (opened-brought d.index t o h, place, f.front, f.faulty) refl
