-- What an accepted file says has nothing left to refuse: the reader has judged all that it would judge of the file that the writer makes of it.
use Prim.Native.Nat.{ℕ, suc}
use native.Mathlib.Omega.{arith}
use mathlib.Core.List.{List, [], ◌∷◌, map}
use mathlib.Core.Bool.{Bool, true, false}
use mathlib.Core.Option.{Option, none, some}
use mathlib.Core.Path.{◌≡◌, refl, sym, ap, ap₂, ◌∙◌, subst}
use lib.ListN.{length, length-take, length-drop}
use lib.Dec.{leb}
use Rattle.meaning.specs.Tree.{Node, note_of}
use Rattle.meaning.specs.Check.{Check, pass, refuse, ◌>>=◌, ◌>>◌, ◌unless◌, in_object, in_component, each}
use Rattle.meaning.specs.Text.{all, distinct, utf8}
use Rattle.meaning.specs.Refusal.{TEXT, TWICE, COUNT}
use Rattle.meaning.specs.Limit.{object_limit}
use Rattle.meaning.specs.Read.{Span, bytes_at}
use Rattle.meaning.specs.Notes.{map_option}
use Rattle.meaning.specs.Model.{Component, Object, Model}
use Rattle.meaning.specs.Format.{Part}
use Rattle.meaning.specs.Layouts.{Layout, current}
use Rattle.meaning.specs.Judge.{letters_of, part}
use Rattle.meaning.specs.Frame.{Reading, reading}
use Rattle.meaning.specs.Sound.{root_levels, object_levels}
use Rattle.meaning.specs.Described.{DescribedObject, Described, read_component, read_object, described_by}
use Rattle.meaning.proofs.Checks.{refused-is-not}
use Rattle.meaning.specs.Every.{Every, IfAny}
use Rattle.readback.specs.Trees.{is_deep, deep_at}
use Rattle.readback.specs.Spelled.{SpelledComponent, SpelledObject, Spelled}
use Rattle.readback.specs.Back.{ReadsBack}
use Rattle.readback.specs.Judged.{judged_names, judged_component, part_of, judged_object, judged_objects, deep_option, any_too_deep, too_deep, judged}
use Rattle.shown.specs.Accepted.{Framing, AttributesStand, ObjectAccepted, ModelAccepted}
use Rattle.shown.proofs.ReadingJudged.{current-framing}
use Rattle.shown.proofs.AcceptedFile.{accepted}
use Rattle.roundtrip.proofs.If.{passed-so}
use Rattle.roundtrip.proofs.AcceptedSpelled.{accepted-spelled}
use Rattle.roundtrip.proofs.AcceptedJudged.{GoodComponent, GoodObject, GoodModel, reading-good}

-- a description whose parts have nothing left to refuse
pub record Passed (d : Described) : Type 0 where
  pub shallow : deep_option root_levels d.attributes ≡ false
  pub shallows : any_too_deep d.objects ≡ false
  pub texts : all utf8 (map (λ o. o.name) d.objects) ≡ true
  pub objects : Every (λ o. judged_object o ≡ pass tt) d.objects

-- ---- what is left to judge

each-passes : (i : ℕ) (os : List DescribedObject) → Every (λ o. judged_object o ≡ pass tt) os → (k : Check (Unit {0})) → (each (λ i o. in_object i (judged_object o)) i os >> k) ≡ k
each-passes i [] h k = refl
each-passes i (o ∷ os) (h, hs) k = rw h (go (each (λ i o. in_object i (judged_object o)) (suc i) os) (each-passes (suc i) os hs k))
  where
    go : (m : Check (List (Unit {0}))) → (m >> k) ≡ k → ((m >>= λ bs. pass (tt ∷ bs)) >> k) ≡ k
    go (pass us) e = e
    go (refuse n p c) e = e

-- COUNT, TWICE
pub passed-judged : (d : Described) → Passed d
    → judged d ≡ ((COUNT unless leb (length (map (λ o. o.name) d.objects)) object_limit) >> (TWICE unless distinct (map (λ o. o.name) d.objects)))
unfolding judged judged_objects judged_names too_deep
passed-judged d h =
    rw (h.shallow, h.shallows, h.texts)
    (go (leb (length (map (λ o. o.name) d.objects)) object_limit) (distinct (map (λ o. o.name) d.objects)))
  where
    go : (b c : Bool) → (((COUNT unless b) >> (TWICE unless c)) >> (each (λ i o. in_object i (judged_object o)) 0 d.objects >> pass tt)) ≡ ((COUNT unless b) >> (TWICE unless c))
    go true true = each-passes 0 d.objects h.objects (pass tt)
    go true false = refl
    go false c = refl

-- ---- of an accepted file

module _ (file : List ℕ) where
  component-passed : (c : Component Span) → GoodComponent c → judged_component (read_component file c) ≡ pass tt
  unfolding judged_component read_component
  component-passed c g = rw (g.type, g.digest) refl

  components-passed : (i : ℕ) (cs : List (Component Span)) → Every GoodComponent cs → (k : Check (Unit {0}))
      → (each (λ j c. in_component j (judged_component c)) i (map (read_component file) cs) >> k) ≡ k
  components-passed i [] h k = refl
  components-passed i (c ∷ cs) (h, hs) k = rw (component-passed c h) (go (each (λ j c. in_component j (judged_component c)) (suc i) (map (read_component file) cs)) (components-passed (suc i) cs hs k))
    where
      go : (m : Check (List (Unit {0}))) → (m >> k) ≡ k → ((m >>= λ bs. pass (tt ∷ bs)) >> k) ≡ k
      go (pass us) e = e
      go (refuse n p c) e = e

  names_same : (cs : List (Component Span)) → map (λ c. c.name) (map (read_component file) cs) ≡ map (λ c. c.name.letters) cs
  unfolding read_component
  names_same [] = refl
  names_same (c ∷ cs) = ap (λ (r : List (List ℕ)). c.name.letters ∷ r) (names_same cs)

  sized : Component Span → ℕ → Part
  sized c n = record { called = c.name.letters; code = c.dtype; typed = letters_of c.type; size = n }

  part_same : (c : Component Span) → SpelledComponent file c → part_of (read_component file c) ≡ part c
  unfolding part_of read_component part sized
  part_same c h =
      let b = h.part in
      let e : length (bytes_at file (record { place = c.offset; size = c.length })) ≡ c.length = simp (length-take, length-drop) (omega (arith, b)) in
      ap (sized c) e

  parts_same : (cs : List (Component Span)) → Every (SpelledComponent file) cs → map part_of (map (read_component file) cs) ≡ map part cs
  parts_same [] h = refl
  parts_same (c ∷ cs) (h, hs) = ap₂ {A = Part} {B = List Part} (λ x y. x ∷ y) (part_same c h) (parts_same cs hs)

  object-passed : (o : Object Span) → GoodObject o → SpelledObject file o → judged_object (read_object file o) ≡ pass tt
  unfolding judged_object read_object
  object-passed o g s =
      rw (g.format, names_same o.components, g.components.names, components-passed 0 o.components g.components.each-good, parts_same o.components s.components, g.rules) refl

  objects-passed : (os : List (Object Span)) → Every GoodObject os → Every (SpelledObject file) os → Every (λ o. judged_object o ≡ pass tt) (map (read_object file) os)
  objects-passed [] g s = tt
  objects-passed (o ∷ os) (g, gs) (s, ss) = (object-passed o g s, objects-passed os gs ss)

  module _ (L : Layout) (start : ℕ) where
    shallow-option : (levels : ℕ) (o : Option (Node Span)) → IfAny (AttributesStand L file start levels) o → deep_option levels (map_option (λ t. bytes_at file (note_of t)) o) ≡ false
    unfolding deep_option deep_at is_deep
    shallow-option levels none h = refl
    shallow-option levels (some t) h = rw h.stands.read refl

    shallow-objects : (os : List (Object Span)) → Every (ObjectAccepted L file start) os → any_too_deep (map (read_object file) os) ≡ false
    unfolding any_too_deep read_object
    shallow-objects [] h = refl
    shallow-objects (o ∷ os) h = rw (shallow-option object_levels o.attributes h.0.attributes) (shallow-objects os h.1)

  object-names : (os : List (Object Span)) → map (λ o. o.name) (map (read_object file) os) ≡ map (λ o. o.name.letters) os
  unfolding read_object
  object-names [] = refl
  object-names (o ∷ os) = ap (λ (r : List (List ℕ)). o.name.letters ∷ r) (object-names os)

names-texts : (limit : ℕ) (ns : List (List ℕ)) → judged_names limit ns ≡ pass tt → all utf8 ns ≡ true
unfolding judged_names
names-texts limit ns = go (all utf8 ns)
  where
    go : (b : Bool) → ((TEXT unless b) >> ((COUNT unless leb (length ns) limit) >> (TWICE unless distinct ns))) ≡ pass tt → b ≡ true
    go true h = refl
    go false h = absurd (refused-is-not h)

names-left : (limit : ℕ) (ns : List (List ℕ)) → judged_names limit ns ≡ pass tt → ((COUNT unless leb (length ns) limit) >> (TWICE unless distinct ns)) ≡ pass tt
unfolding judged_names
names-left limit ns h = sym (rw (names-texts limit ns h) refl) ∙ h

-- of a model whose texts and attributes stand in the manifest and whose parts have passed their checks
module _ (L : Layout) (file : List ℕ) (start : ℕ) (m : Model Span) (g : GoodModel m) (stands : ModelAccepted L file start m) (spelled : Spelled file m) where
  pub good-passed : Passed (described_by file m)
  unfolding described_by
  good-passed = record {
    shallow = shallow-option file L start root_levels m.attributes stands.attributes;
    shallows = shallow-objects file L start m.objects stands.objects;
    texts = rw (object-names file m.objects) (names-texts object_limit (map (λ o. o.name.letters) m.objects) g.names);
    objects = objects-passed file m.objects g.objects spelled.objects;
  }

  -- the reader's refusal of the file that the writer makes of it: none
  pub good-judged : judged (described_by file m) ≡ pass tt
  unfolding described_by
  good-judged =
      passed-judged (described_by file m) good-passed ∙ rw (object-names file m.objects) (names-left object_limit (map (λ o. o.name.letters) m.objects) g.names)

module _ (L : Layout) (framing : Framing L) (file : List ℕ) (r : Reading) (accepts : reading L file ≡ pass r) where
  good : GoodModel r.model
  good = passed-so (reading-good L file) accepts

  stands : ModelAccepted L file r.start r.model
  stands = (accepted L framing file r accepts).model

  pub accepted-passed : Passed (described_by file r.model)
  accepted-passed = good-passed L file r.start r.model good stands (accepted-spelled L framing file r accepts)

  pub accepted-judged : judged (described_by file r.model) ≡ pass tt
  accepted-judged = good-judged L file r.start r.model good stands (accepted-spelled L framing file r accepts)

pub read-passed : {file : List ℕ} {d : Described} → ReadsBack file d → Passed d
read-passed {file} b = subst Passed b.back (accepted-passed current current-framing file b.read b.is)
