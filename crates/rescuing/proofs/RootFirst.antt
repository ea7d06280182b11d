-- The reader's judgement is that of the manifest up to its objects' names, then of each object in turn: a sound file keeps all, a file that fails earlier is refused as the reader refuses it, and
-- where an object is refused the first that is dropped is the one that the reader names.
use Prim.Native.Nat.{ℕ, suc, ◌+◌}
use mathlib.Core.List.{List, [], ◌∷◌}
use mathlib.Core.Option.{Option}
use mathlib.Core.Path.{◌≡◌, refl, sym, ◌∙◌}
use lib.ListN.{take, drop}
use Rattle.meaning.specs.Limit.{object_limit}
use Rattle.meaning.specs.Tree.{Node}
use Rattle.meaning.specs.Check.{Check, pass, refuse, ◌>>=◌, ◌>>◌, in_object, required, optional, each}
use Rattle.meaning.specs.Read.{Span, span_to, manifest}
use Rattle.meaning.specs.Model.{RootFields, Named, Object, Model}
use Rattle.meaning.specs.Layouts.{Layout}
use Rattle.meaning.specs.Field.{root_fields, names}
use Rattle.meaning.specs.Judge.{attributes_of, a_version, object, objects_of, judge}
use Rattle.meaning.specs.Frame.{Frame, frame, checked, Reading, reading}
use Rattle.rescuing.specs.Sift.{Dropped, Opened, opened, kept, dropped, verdicts, Sifted, sift, sifted}

-- ---- runs of checks

module _ {A B C : Type 0} where
  bind-groups : (m : Check A) (k : A → Check B) (l : B → Check C) → (m >>= k >>= l) ≡ (m >>= λ a. k a >>= l)
  bind-groups (pass a) k l = refl
  bind-groups (refuse n o c) k l = refl

  then-groups : (m : Check A) (k : Check B) (l : B → Check C) → (m >> k >>= l) ≡ (m >> (k >>= l))
  then-groups (pass a) k l = refl
  then-groups (refuse n o c) k l = refl

module _ {A B : Type 0} where
  bind-same : (m : Check A) (k l : A → Check B) → ((a : A) → k a ≡ l a) → (m >>= k) ≡ (m >>= l)
  bind-same (pass a) k l h = h a
  bind-same (refuse n o c) k l h = refl

-- ---- the judgement, cut after the names

module _ {P : Type 0} (L : Layout) (start : ℕ) where
  -- the i-th object judged in its place
  abbrev pub in_turn : ℕ → Named P → Check (Object P)
  in_turn i n = in_object i (object L start n)

  abbrev pub judged_each : Opened P → Check (Model P)
  judged_each o = each in_turn 0 o.named >>= λ os. pass (record { attributes = o.attributes; objects = os })

  pub judge-opened : (t : Node P) → judge L start t ≡ (opened L t >>= judged_each)
  unfolding judge opened objects_of
  judge-opened t =
      bind-same (root_fields L.root t) _ _ (λ r. by-version r (required r.version))
      ∙ sym (bind-groups (root_fields L.root t) _ judged_each)
    where
      by_names : (a : Option (Node P)) (k : Check (List (Named P)))
          → (k >>= (λ ns. each in_turn 0 ns) >>= λ os. pass (record { attributes = a; objects = os })) ≡ (k >>= (λ ns. pass (record { attributes = a; named = ns })) >>= judged_each)
      by_names a (pass ns) = refl
      by_names a (refuse n o c) = refl

      by-objects : (a : Option (Node P)) (k : Check (Node P))
          → (k >>= λ objects. names object_limit objects >>= (λ ns. each in_turn 0 ns) >>= λ os. pass (record { attributes = a; objects = os }))
          ≡ (k >>= (λ objects. names object_limit objects >>= λ ns. pass (record { attributes = a; named = ns })) >>= judged_each)
      by-objects a (pass objects) = by_names a (names object_limit objects)
      by-objects a (refuse n o c) = refl

      by-attributes : (r : RootFields P) (k : Check (Option (Node P)))
          → (k >>= λ a. required r.objects >>= λ objects. names object_limit objects >>= (λ ns. each in_turn 0 ns) >>= λ os. pass (record { attributes = a; objects = os }))
          ≡ (k >>= (λ a. required r.objects >>= λ objects. names object_limit objects >>= λ ns. pass (record { attributes = a; named = ns })) >>= judged_each)
      by-attributes r (pass a) = by-objects a (required r.objects)
      by-attributes r (refuse n o c) = refl

      by-major : (r : RootFields P) (k : Check (Unit {0}))
          → (k >> (optional attributes_of r.attributes >>= λ a. required r.objects >>= λ objects. names object_limit objects >>= (λ ns. each in_turn 0 ns) >>= λ os. pass (record { attributes = a; objects = os })))
          ≡ (k >> (optional attributes_of r.attributes >>= λ a. required r.objects >>= λ objects. names object_limit objects >>= λ ns. pass (record { attributes = a; named = ns })) >>= judged_each)
      by-major r (pass u) = by-attributes r (optional attributes_of r.attributes)
      by-major r (refuse n o c) = refl

      by-version : (r : RootFields P) (k : Check (Node P))
          → (k >>= λ version. a_version version >> (optional attributes_of r.attributes >>= λ a. required r.objects >>= λ objects. names object_limit objects >>= (λ ns. each in_turn 0 ns) >>= λ os. pass (record { attributes = a; objects = os })))
          ≡ (k >>= (λ version. a_version version >> (optional attributes_of r.attributes >>= λ a. required r.objects >>= λ objects. names object_limit objects >>= λ ns. pass (record { attributes = a; named = ns }))) >>= judged_each)
      by-version r (pass version) = by-major r (a_version version)
      by-version r (refuse n o c) = refl

  -- ---- each object in turn, and each by itself

  -- all are sound, and kept; or the first that is dropped is the one that the reader names
  pub data Turned (i : ℕ) (ks : List (Check (Object P))) : Check (List (Object P)) → Type 0 where
    all-kept : dropped i ks ≡ [] → Turned i ks (pass (kept ks))
    first-dropped : {d : Dropped} {ds : List Dropped} → dropped i ks ≡ d ∷ ds → Turned i ks (refuse d.number d.index d.component)

  pub in-turn : (i : ℕ) (ns : List (Named P)) → Turned i (verdicts L start ns) (each in_turn i ns)
  unfolding verdicts kept dropped
  in-turn i [] = all-kept refl
  in-turn i (n ∷ ns) = by_first (object L start n) (each in_turn (suc i) ns) (in-turn (suc i) ns)
    where
      by-rest : (o : Object P) (k : Check (List (Object P))) → Turned (suc i) (verdicts L start ns) k → Turned i (pass o ∷ verdicts L start ns) (k >>= λ os. pass (o ∷ os))
      by-rest o _ (all-kept e) = all-kept e
      by-rest o _ (first-dropped e) = first-dropped e

      by_first : (v : Check (Object P)) (k : Check (List (Object P))) → Turned (suc i) (verdicts L start ns) k
          → Turned i (v ∷ verdicts L start ns) (in_object i v >>= λ o. k >>= λ os. pass (o ∷ os))
      by_first (pass o) k h = by-rest o k h
      by_first (refuse m o c) k h = first-dropped refl

-- ---- of files

-- the reader's verdict, by what is kept and dropped
pub data AsReader (start : ℕ) (s : Sifted) : Check Reading → Type 0 where
  sound : s.dropped ≡ [] → AsReader start s (pass (record { start = start; model = s.model }))
  refuses : {d : Dropped} {ds : List Dropped} → s.dropped ≡ d ∷ ds → AsReader start s (refuse d.number d.index d.component)

-- a file that fails earlier gets the reader's refusal; of any other the reader accepts what is kept, or refuses the first that is dropped
pub data ReadBeside (r : Check Reading) : Check Sifted → Type 0 where
  earlier : {n o c : ℕ} → r ≡ refuse n o c → ReadBeside r (refuse n o c)
  opens : {start : ℕ} {s : Sifted} → AsReader start s r → ReadBeside r (pass s)

pub read-beside : (L : Layout) (file : List ℕ) → ReadBeside (reading L file) (sifted L file)
unfolding reading sifted sift
read-beside L file = by-frame (frame L file)
  where
    by-each : (start : ℕ) (o : Opened Span) (k : Check (List (Object Span))) → Turned L start 0 (verdicts L start o.named) k
        → AsReader start (sift L start o) (k >>= (λ os. pass (record { attributes = o.attributes; objects = os })) >>= λ m. pass (record { start = start; model = m }))
    by-each start o _ (all-kept e) = sound e
    by-each start o _ (first-dropped e) = refuses e

    by-opened : (start : ℕ) (k : Check (Opened Span)) → ReadBeside (k >>= judged_each L start >>= λ m. pass (record { start = start; model = m })) (k >>= λ o. pass (sift L start o))
    by-opened start (pass o) = opens (by-each start o (each (in_turn L start) 0 o.named) (in-turn L start 0 o.named))
    by-opened start (refuse n o c) = earlier refl

    by-tree : (start : ℕ) (k : Check (Node Span)) → ReadBeside (k >>= λ t. judge L start t >>= λ m. pass (record { start = start; model = m })) (k >>= λ t. opened L t >>= λ o. pass (sift L start o))
    by-tree start (pass t) = rw (judge-opened L start t) (by-opened start (opened L t))
    by-tree start (refuse n o c) = earlier refl

    by-frame : (k : Check Frame)
        → ReadBeside (k >>= λ f. checked (manifest (span_to (f.start + f.size)) (take f.size (drop f.start file))) >>= λ t. judge L f.start t >>= λ m. pass (record { start = f.start; model = m }))
        (k >>= λ f. checked (manifest (span_to (f.start + f.size)) (take f.size (drop f.start file))) >>= λ t. opened L t >>= λ o. pass (sift L f.start o))
    by-frame (pass f) = by-tree f.start (checked (manifest (span_to (f.start + f.size)) (take f.size (drop f.start file))))
    by-frame (refuse n o c) = earlier refl
