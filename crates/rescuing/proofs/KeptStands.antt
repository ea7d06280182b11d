-- What is kept of a file that passes the checks up to its names is like the model of an accepted file: its texts and attributes stand in the manifest, its parts have passed their checks, its counts
-- and dimensions are within the limits. So nothing of it is left to refuse in the file that the writer makes of it.
use Prim.Native.Nat.{ℕ, suc, ◌+◌, ◌≤◌}
use native.Mathlib.Omega.{arith}
use mathlib.Core.List.{List, [], ◌∷◌, map}
use mathlib.Core.Bool.{Bool, true, false, cond, ◌&&◌}
use mathlib.Core.Path.{◌≡◌, refl}
use lib.ListN.{length, take, drop, length-map}
use lib.Dec.{leb}
use borrow.Author.Tests.{leb-true, le-leb}
use Rattle.meaning.specs.Refusal.{TEXT, TWICE, COUNT}
use Rattle.meaning.specs.Limit.{object_limit}
use Rattle.meaning.specs.Tree.{Node}
use Rattle.meaning.specs.Text.{same, one_of, distinct, all, utf8}
use Rattle.meaning.specs.Check.{Check, pass, refuse, ◌>>◌, ◌unless◌, required, optional}
use Rattle.meaning.specs.Read.{Span, span_to, manifest}
use Rattle.meaning.specs.Model.{Named, Object}
use Rattle.meaning.specs.Layouts.{Layout}
use Rattle.meaning.specs.Field.{root_fields, names}
use Rattle.meaning.specs.Judge.{attributes_of, a_version, object}
use Rattle.meaning.specs.Frame.{frame, checked}
use Rattle.meaning.specs.Described.{described_by}
use Rattle.meaning.specs.Every.{Every, IfAny}
use Rattle.readback.specs.Fine.{Fine}
use Rattle.readback.specs.Lent.{Held}
use Rattle.readback.specs.Spelled.{Spelled}
use Rattle.readback.specs.Judged.{judged_names, judged}
use Rattle.shown.specs.Accepted.{Framing, AttributesStand, ObjectAccepted, ModelAccepted}
use Rattle.shown.proofs.Judged as shown
use Rattle.shown.proofs.Judged.{Judged, JudgedFrom}
use Rattle.shown.proofs.AcceptsExactly.{bytes_take, bytes_drop}
use Rattle.shown.proofs.Judgement as placed
use Rattle.shown.proofs.Judgement.{At, Naming}
use Rattle.shown.proofs.ReadingJudged.{frame-so, tree-so}
use Rattle.roundtrip.specs.Small.{Small}
use Rattle.roundtrip.specs.Sized.{SizedObject, Sized}
use Rattle.roundtrip.proofs.If as if
use Rattle.roundtrip.proofs.If.{Any, If, anyhow, any-every}
use Rattle.roundtrip.proofs.JudgedSized as small
use Rattle.roundtrip.proofs.JudgedSized.{SmallNamed, checked-small}
use Rattle.roundtrip.proofs.AcceptedJudged.{called, names-held, FromNamed, GoodObject, object-held, GoodModel}
use Rattle.roundtrip.proofs.AcceptedSpelled.{stands-spelled}
use Rattle.roundtrip.proofs.AcceptedPassed.{good-judged}
use Rattle.roundtrip.proofs.SpelledFine.{spelled-fine}
use Rattle.rescuing.specs.Sift.{Opened, opened, kept, verdicts, Sifted, sift, sifted}

-- ---- checks

judged-if : {A : Type 0} {least : ℕ} {Q : A → Type 0} (k : Check A) → JudgedFrom least Q k → If Q k
judged-if (pass a) h = record { is = h.is }
judged-if (refuse n o c) h = record { is = tt }

both : {A : Type 0} {Q R : A → Type 0} (k : Check A) → If Q k → If R k → If (λ a. Q a × R a) k
both (pass a) q r = record { is = (q.is, r.is) }
both (refuse n o c) q r = record { is = tt }

-- ---- the objects that pass

module _ {P : Type 0} (L : Layout) (start : ℕ) where
  kept-every : (Q : Named P → Type 0) (R : Object P → Type 0) → ((n : Named P) → Q n → If R (object L start n)) → (ns : List (Named P)) → Every Q ns → Every R (kept (verdicts L start ns))
  unfolding kept verdicts
  kept-every Q R f [] h = tt
  kept-every Q R f (n ∷ ns) (h, hs) = by (object L start n) (f n h) (kept-every Q R f ns hs)
    where
      by : (k : Check (Object P)) → If R k → Every R (kept (verdicts L start ns)) → Every R (kept (k ∷ verdicts L start ns))
      by (pass o) q r = (q.is, r)
      by (refuse m o c) q r = r

  pub kept-few : (ns : List (Named P)) → length (kept (verdicts L start ns)) ≤ length ns
  unfolding kept verdicts
  kept-few [] = omega arith
  kept-few (n ∷ ns) = by (object L start n) (kept-few ns)
    where
      by : (k : Check (Object P)) → length (kept (verdicts L start ns)) ≤ length ns → length (kept (k ∷ verdicts L start ns)) ≤ suc (length ns)
      by (pass o) h = omega (arith, h)
      by (refuse m o c) h = omega (arith, h)

  -- ---- their names are some of those that were judged

  abbrev kept_names : List (Named P) → List (List ℕ)
  kept_names ns = map (λ o. o.name.letters) (kept (verdicts L start ns))

  kept-texts : (ns : List (Named P)) → all utf8 (map called ns) ≡ true → all utf8 (kept_names ns) ≡ true
  unfolding kept verdicts
  kept-texts [] h = refl
  kept-texts (n ∷ ns) h = by (utf8 (called n)) refl (kept-texts ns) h (object L start n) (object-held L start n)
    where
      by : (b : Bool) → utf8 (called n) ≡ b → (all utf8 (map called ns) ≡ true → all utf8 (kept_names ns) ≡ true) → (b && all utf8 (map called ns)) ≡ true
          → (k : Check (Object P)) → If (FromNamed n) k → all utf8 (map (λ o. o.name.letters) (kept (k ∷ verdicts L start ns))) ≡ true
      by true e r h (pass o) q = rw (q.is.0, e) (r h)
      by true e r h (refuse m o c) q = r h
      by false e r h k q = cc

  -- a name that isn't one of all isn't one of those that are kept
  kept-apart : (x : List ℕ) (ns : List (Named P)) → one_of (map called ns) x ≡ false → one_of (kept_names ns) x ≡ false
  unfolding kept verdicts
  kept-apart x [] h = refl
  kept-apart x (n ∷ ns) h = by (same (called n) x) refl (kept-apart x ns) h (object L start n) (object-held L start n)
    where
      by : (b : Bool) → same (called n) x ≡ b → (one_of (map called ns) x ≡ false → one_of (kept_names ns) x ≡ false) → cond b true (one_of (map called ns) x) ≡ false
          → (k : Check (Object P)) → If (FromNamed n) k → one_of (map (λ o. o.name.letters) (kept (k ∷ verdicts L start ns))) x ≡ false
      by true e r h k q = cc
      by false e r h (pass o) q = rw (q.is.0, e) (r h)
      by false e r h (refuse m o c) q = r h

  kept-distinct : (ns : List (Named P)) → distinct (map called ns) ≡ true → distinct (kept_names ns) ≡ true
  unfolding kept verdicts
  kept-distinct [] h = refl
  kept-distinct (n ∷ ns) h = by (one_of (map called ns) (called n)) refl (kept-distinct ns) h (object L start n) (object-held L start n)
    where
      by : (b : Bool) → one_of (map called ns) (called n) ≡ b → (distinct (map called ns) ≡ true → distinct (kept_names ns) ≡ true) → cond b false (distinct (map called ns)) ≡ true
          → (k : Check (Object P)) → If (FromNamed n) k → distinct (map (λ o. o.name.letters) (kept (k ∷ verdicts L start ns))) ≡ true
      by true e r h k q = cc
      by false e r h (pass o) q = rw (q.is.0, kept-apart (called n) ns e) (r h)
      by false e r h (refuse m o c) q = r h

  kept-names : (ns : List (Named P)) → judged_names object_limit (map called ns) ≡ pass tt → judged_names object_limit (kept_names ns) ≡ pass tt
  unfolding judged_names
  kept-names ns = by (all utf8 (map called ns)) (leb (length (map called ns)) object_limit) (distinct (map called ns)) refl refl refl
    where
      by : (a b c : Bool) → all utf8 (map called ns) ≡ a → leb (length (map called ns)) object_limit ≡ b → distinct (map called ns) ≡ c
          → ((TEXT unless a) >> ((COUNT unless b) >> (TWICE unless c))) ≡ pass tt
          → ((TEXT unless all utf8 (kept_names ns)) >> ((COUNT unless leb (length (kept_names ns)) object_limit) >> (TWICE unless distinct (kept_names ns)))) ≡ pass tt
      by true true true e f g h =
          let few = kept-few ns in let many = leb-true (length (map called ns)) object_limit f in
          let m = length-map ns called in let k = length-map (kept (verdicts L start ns)) (λ (o : Object P). o.name.letters) in
          rw (kept-texts ns e, le-leb (length (kept_names ns)) object_limit (omega (arith, few, many, m, k)), kept-distinct ns g) refl
      by true true false e f g h = cc
      by true false c e f g h = cc
      by false b c e f g h = cc

-- ---- what is kept of a tree

module _ (L : Layout) (file : List ℕ) (start : ℕ) where
  kept-each : (ns : List (Named Span)) → Every (Naming L file start 30) ns → Every (ObjectAccepted L file start) (kept (verdicts L start ns))
  unfolding kept verdicts
  kept-each [] h = tt
  kept-each (n ∷ ns) h = by (object L start n) (placed.object-so L file start n h.0) (kept-each ns h.1)
    where
      by : (k : Check (Object Span)) → Judged (ObjectAccepted L file start) k → Every (ObjectAccepted L file start) (kept (verdicts L start ns))
          → Every (ObjectAccepted L file start) (kept (k ∷ verdicts L start ns))
      by (pass o) q r = (q.is, r)
      by (refuse m o c) q r = r

  -- the attributes and each object stand in the manifest
  record OpenedStands (o : Opened Span) : Type 0 where
    attributes : IfAny (AttributesStand L file start 31) o.attributes
    named : Every (Naming L file start 30) o.named

  opened-stands : (t : Node Span) → At L file start 32 t → Judged OpenedStands (opened L t)
  unfolding opened
  opened-stands t h =
      shown.bind (root_fields L.root t) _ (placed.root_fields-so L file start t h) λ r p.
      shown.bind (required r.version) _ (shown.is-required r.version p.version) λ version at-version.
      shown.then (a_version version) _ (placed.version-so L file start version at-version)
      (shown.bind (optional attributes_of r.attributes) _ (shown.if-any attributes_of r.attributes p.attributes (placed.attributes-so L file start 31)) λ a lie.
      shown.bind (required r.objects) _ (shown.is-required r.objects p.objects) λ objects at-objects.
      shown.bind (names object_limit objects) _ (placed.names-so L file start 31 object_limit objects at-objects) λ ns q.
      shown.passes _ (record { attributes = lie; named = q }))

module _ {P : Type 0} (L : Layout) where
  -- small values, and names that pass
  record OpenedSo (o : Opened P) : Type 0 where
    named : Every SmallNamed o.named
    count : length o.named ≤ object_limit
    names : judged_names object_limit (map called o.named) ≡ pass tt

  opened-so : (t : Node P) → Small t → If OpenedSo (opened L t)
  unfolding opened
  opened-so t h =
      if.bind (root_fields L.root t) _ (small.root_objects-so L.root t h) λ r p.
      if.bind (required r.version) _ (anyhow (required r.version)) λ version u.
      if.then (a_version version) _
      (if.bind (optional attributes_of r.attributes) _ (anyhow (optional attributes_of r.attributes)) λ a v.
      if.bind (required r.objects) _ (if.is-required r.objects p) λ objects at-objects.
      if.bind (names object_limit objects) _ (both (names object_limit objects) (small.names-so object_limit objects at-objects) (names-held object_limit objects)) λ ns q.
      if.passes _ (record { named = q.0.0; count = q.0.1; names = q.1 }))

-- ---- what is kept of a file

pub record KeptStands (L : Layout) (file : List ℕ) (s : Sifted) : Type 0 where
  pub start : ℕ
  pub header : 8 ≤ start
  pub inside : start ≤ length file
  pub stands : ModelAccepted L file start s.model
  pub good : GoodModel s.model
  pub sized : Sized s.model

kept-stands : (L : Layout) → Framing L → (file : List ℕ) → Held file → If (KeptStands L file) (sifted L file)
unfolding sifted sift
kept-stands L framing file held =
    if.bind (frame L file) _ (judged-if (frame L file) (frame-so L framing file)) λ f h.
    let bytes : List ℕ = take f.size (drop f.start file) in
    let read : Check (Node Span) = checked (manifest (span_to (f.start + f.size)) bytes) in
    if.bind read _
    (both read (judged-if read (tree-so L file f h)) (checked-small (span_to (f.start + f.size)) bytes (bytes_take f.size (drop f.start file) (bytes_drop f.start file held.bytes)))) λ t q.
    if.bind (opened L t) _ (both (opened L t) (judged-if (opened L t) (opened-stands L file f.start t q.0)) (opened-so L t q.1)) λ o p.
    let e = h.ends in let few = kept-few L f.start o.named in let many = p.1.count in
    if.passes _ (record {
      start = f.start;
      header = h.header;
      inside = omega (arith, e);
      stands = record { attributes = p.0.attributes; objects = kept-each L file f.start o.named p.0.named };
      good = record {
        names = kept-names L f.start o.named p.1.names;
        objects = kept-every L f.start Any GoodObject (λ n u. good-only n (object L f.start n) (object-held L f.start n)) o.named (any-every o.named);
      };
      sized = record { count = omega (arith, few, many); objects = kept-every L f.start SmallNamed SizedObject (small.object-so L f.start) o.named p.1.named };
    })
  where
    good-only : (n : Named Span) (k : Check (Object Span)) → If (FromNamed n) k → If GoodObject k
    good-only n (pass o) q = record { is = q.is.1 }
    good-only n (refuse m o c) q = record { is = tt }

module _ (L : Layout) (framing : Framing L) (file : List ℕ) (held : Held file) (s : Sifted) (opens : sifted L file ≡ pass s) where
  stands : KeptStands L file s
  stands = if.passed-so (kept-stands L framing file held) opens

  -- the rows of what is kept, with the file as their buffer, are sound and describe it
  pub kept-spelled : Spelled file s.model
  kept-spelled = stands-spelled L file stands.start stands.header stands.inside s.model stands.stands

  pub kept_fine : Fine (described_by file s.model)
  kept_fine = spelled-fine file held.brief s.model kept-spelled stands.sized

  -- the reader's refusal of the file that the writer makes of it: none
  pub kept-judged : judged (described_by file s.model) ≡ pass tt
  kept-judged = good-judged L file stands.start s.model stands.good stands.stands kept-spelled

  pub kept-within : length s.model.objects ≤ object_limit
  kept-within = stands.sized.count
