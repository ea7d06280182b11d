-- The rows of a model that stands in its file are sound, and describe what the file does: what was read can be written.
use Prim.Native.Nat.{ℕ, suc, ◌+◌, ◌*◌, ◌≤◌}
use native.Mathlib.Omega.{arith}
use mathlib.Core.List.{List, [], ◌∷◌, ◌++◌, map}
use mathlib.Core.Bool.{true}
use mathlib.Core.Option.{Option, none, some}
use mathlib.Core.Path.{◌≡◌, refl, ap, ap₂, ◌∙◌}
use lib.ListN.{length, replicate, length-append, length-map}
use lib.Seq.{take_at, drop_at}
use borrow.Author.Tests.{le-leb, lt-ltb, ne_eqb}
use Rattle.meaning.specs.Columns.{object_width, component_width}
use Rattle.meaning.specs.Limit.{rank_limit}
use Rattle.meaning.specs.Text.{all}
use Rattle.meaning.specs.Tree.{Node, note_of}
use Rattle.meaning.specs.Read.{Span, bytes_at}
use Rattle.meaning.specs.Notes.{map_option}
use Rattle.meaning.specs.Model.{Word, Component, Object, Model}
use Rattle.meaning.specs.Types.{storages}
use Rattle.meaning.specs.Judge.{letters_of}
use Rattle.meaning.specs.Rows.{word_span, optional_span, attributes_span, rows, component_count}
use Rattle.meaning.specs.Asked.{AskedComponent, asked, present_at}
use Rattle.meaning.specs.Sound.{root_levels, object_levels, absent_or, owners, inside, attributes_sound, object_sound, component_sound, asked_sound, rows_sound}
use Rattle.meaning.specs.Check.{pass}
use Rattle.meaning.specs.Write.{written_plain, written}
use Rattle.meaning.specs.Described.{DescribedComponent, DescribedObject, Described, described_component, described_object, described_objects, described, read_component, read_object, described_by}
use Rattle.meaning.proofs.SameText.{same_self}
use Rattle.meaning.proofs.Lengths.{rows-length}
use Rattle.meaning.specs.Every.{IfAny, Every}
use Rattle.readback.specs.Back.{ReadsBack}
use Rattle.readback.specs.Spelled.{SpelledWord, SpelledMap, SpelledComponent, SpelledObject, Spelled, asked_of, asked_of_object, asked_of_all, asked_of_model}
use Rattle.readback.proofs.RowsOfModel.{rows-asked}

module _ (file : List ℕ) where
  -- ---- ranges

  present-there : (s : Span) → 1 ≤ s.place → present_at file s ≡ some (bytes_at file s)
  unfolding present_at
  present-there s h = rw (ne_eqb s.place 0 (λ e. omega arith))

  word-present : (w : Option (Word Span)) → IfAny (SpelledWord file) w → present_at file (optional_span w) ≡ letters_of w
  unfolding optional_span letters_of present_at
  word-present none h = refl
  word-present (some w) h = present-there (word_span w) h.lies.later ∙ ap some h.spelled

  attributes-present : (levels : ℕ) (a : Option (Node Span)) → IfAny (SpelledMap file levels) a → present_at file (attributes_span a) ≡ map_option (λ t. bytes_at file (note_of t)) a
  unfolding attributes_span present_at
  attributes-present levels none h = refl
  attributes-present levels (some t) h = present-there (note_of t) h.lies.later

  -- ---- the description

  component-same : (i : ℕ) (c : Component Span) → SpelledComponent file c → described_component file (asked_of i c) ≡ read_component file c
  unfolding described_component asked_of read_component
  component-same i c h = rw (h.name.spelled, word-present c.type h.type, word-present c.digest h.digest)

  components-same : (i : ℕ) (cs : List (Component Span)) → Every (SpelledComponent file) cs → map (described_component file) (map (asked_of i) cs) ≡ map (read_component file) cs
  components-same i [] h = refl
  components-same i (c ∷ cs) (h, hs) = ap₂ {A = DescribedComponent} {B = List DescribedComponent} (λ a b. a ∷ b) (component-same i c h) (components-same i cs hs)

  object-same : (i : ℕ) (o : Object Span) → SpelledObject file o → described_object file (asked_of_object o) (map (asked_of i) o.components) ≡ read_object file o
  unfolding described_object asked_of_object read_object
  object-same i o h =
      rw (h.name.spelled, h.format.spelled, attributes-present object_levels o.attributes h.attributes, components-same i o.components h.components)

  objects-same : (i : ℕ) (os : List (Object Span)) → Every (SpelledObject file) os → described_objects file (map asked_of_object os) (asked_of_all i os) ≡ map (read_object file) os
  unfolding described_objects asked_of_all asked_of_object
  objects-same i [] h = refl
  objects-same i (o ∷ os) (h, hs) =
      let cs : List AskedComponent = map (asked_of i) o.components in
      let n : length cs ≡ length o.components = length-map o.components (asked_of i) in
      ap₂ {A = DescribedObject} {B = List DescribedObject} (λ a b. a ∷ b)
      (ap (described_object file (asked_of_object o)) (take_at cs (asked_of_all (suc i) os) (length o.components) n) ∙ object-same i o h)
      (ap (described_objects file (map asked_of_object os)) (drop_at cs (asked_of_all (suc i) os) (length o.components) n) ∙ objects-same (suc i) os hs)

  model-same : (m : Model Span) → Spelled file m → described file (asked_of_model m) ≡ described_by file m
  unfolding described described_by asked_of_model
  model-same m h = rw (attributes-present root_levels m.attributes h.attributes, objects-same 0 m.objects h.objects)

  pub ranks : (os : List (Object Span)) → Every (SpelledObject file) os → Every (λ o. length o.shape ≤ rank_limit) os
  ranks [] h = tt
  ranks (o ∷ os) (h, hs) = (h.rank, ranks os hs)

  -- the rows, whatever follows them in the table, describe what the file does
  pub rows-described : (m : Model Span) (R : List ℕ) → Spelled file m
      → described file (asked (rows m ++ R) (length m.objects) (component_count m.objects) (attributes_span m.attributes)) ≡ described_by file m
  rows-described m R h = ap (described file) (rows-asked m R (ranks m.objects h.objects)) ∙ model-same m h

  -- ---- soundness

  inside-true : (s : Span) → s.place + s.size ≤ length file → inside file s ≡ true
  unfolding inside
  inside-true s h = le-leb (s.place + s.size) (length file) h

  inside-option : (w : Option (Word Span)) → IfAny (SpelledWord file) w → inside file (optional_span w) ≡ true
  unfolding optional_span
  inside-option none h = inside-true _ (omega arith)
  inside-option (some w) h = inside-true (word_span w) h.lies.inside

  component-sound : (i : ℕ) (c : Component Span) → SpelledComponent file c → component_sound file (asked_of i c) ≡ true
  unfolding component_sound asked_of
  component-sound i c h =
      rw (
        inside-true (word_span c.name) h.name.lies.inside,
        lt-ltb c.dtype (length storages) h.dtype,
        inside-option c.type h.type,
        inside-true (record { place = c.offset; size = c.length }) h.part,
        inside-option c.digest h.digest,
      )

  attributes-sound : (levels : ℕ) (a : Option (Node Span)) → IfAny (SpelledMap file levels) a → attributes_sound file levels (attributes_span a) ≡ true
  unfolding attributes_sound attributes_span absent_or present_at
  attributes-sound levels none h = rw (inside-true (attributes_span none) (none_inside))
    where
      none_inside : 0 + 0 ≤ length file
      none_inside = omega arith
  attributes-sound levels (some t) h = rw (inside-true (note_of t) h.lies.inside, present-there (note_of t) h.lies.later) h.well-formed

  object-sound : (o : Object Span) → SpelledObject file o → object_sound file (asked_of_object o) ≡ true
  unfolding object_sound asked_of_object
  object-sound o h =
      rw (
        inside-true (word_span o.name) h.name.lies.inside,
        le-leb (length o.shape) rank_limit h.rank,
        inside-true (word_span o.format) h.format.lies.inside,
        attributes-sound object_levels o.attributes h.attributes,
      )

  objects-sound : (os : List (Object Span)) → Every (SpelledObject file) os → all (object_sound file) (map asked_of_object os) ≡ true
  objects-sound [] h = refl
  objects-sound (o ∷ os) (h, hs) = rw (object-sound o h) (objects-sound os hs)

  components-sound : (i : ℕ) (cs : List (Component Span)) (rest : List AskedComponent) → Every (SpelledComponent file) cs → all (component_sound file) rest ≡ true
      → all (component_sound file) (map (asked_of i) cs ++ rest) ≡ true
  components-sound i [] rest h k = k
  components-sound i (c ∷ cs) rest (h, hs) k = rw (component-sound i c h) (components-sound i cs rest hs k)

  all_sound : (i : ℕ) (os : List (Object Span)) → Every (SpelledObject file) os → all (component_sound file) (asked_of_all i os) ≡ true
  unfolding asked_of_all
  all_sound i [] h = refl
  all_sound i (o ∷ os) (h, hs) = components-sound i o.components (asked_of_all (suc i) os) h.components (all_sound (suc i) os hs)

owners-of-one : (i : ℕ) (cs : List (Component Span)) (rest : List AskedComponent)
    → replicate (length cs) i ++ map (λ c. c.owner) rest ≡ map (λ c. c.owner) (map (asked_of i) cs ++ rest)
unfolding asked_of
owners-of-one i [] rest = refl
owners-of-one i (c ∷ cs) rest = ap (λ (r : List ℕ). i ∷ r) (owners-of-one i cs rest)

owners-are : (i : ℕ) (os : List (Object Span)) → owners i (map asked_of_object os) ≡ map (λ c. c.owner) (asked_of_all i os)
unfolding owners asked_of_all asked_of_object
owners-are i [] = refl
owners-are i (o ∷ os) = ap (λ (r : List ℕ). replicate (length o.components) i ++ r) (owners-are (suc i) os) ∙ owners-of-one i o.components (asked_of_all (suc i) os)

pub model-sound : (file : List ℕ) (m : Model Span) → Spelled file m → asked_sound file (asked_of_model m) ≡ true
unfolding asked_sound asked_of_model
model-sound file m h =
    rw (
      owners-are 0 m.objects,
      same_self (map (λ c. c.owner) (asked_of_all 0 m.objects)),
      attributes-sound file root_levels m.attributes h.attributes,
      objects-sound file m.objects h.objects,
      all_sound file 0 m.objects h.objects,
    )

-- the rows, whatever follows them in the table, are sound
pub rows-sound : (file : List ℕ) (m : Model Span) (R : List ℕ) → Spelled file m
    → rows_sound file (rows m ++ R) (length m.objects) (component_count m.objects) (attributes_span m.attributes) ≡ true
unfolding rows_sound
rows-sound file m R h =
    rw (
      le-leb (object_width * length m.objects + component_width * component_count m.objects) (length (rows m ++ R)) (omega (arith, length-append (rows m) R, rows-length m)),
      rows-asked m R (ranks file m.objects h.objects),
    )
    (model-sound file m h)

-- writing what was read: the file's own description is written
pub written-again : (file : List ℕ) (m : Model Span) (R : List ℕ) (room : ℕ) → Spelled file m
    → written (rows m ++ R) (length m.objects) (component_count m.objects) (attributes_span m.attributes) file room ≡ written_plain (described_by file m) room
unfolding written
written-again file m R room h = rw (rows-sound file m R h, rows-described file m R h)

-- a file that our writer wrote, read and written once more, is the same file
pub written_twice : (d : Described) (room : ℕ) (file R : List ℕ) (back : ReadsBack file d) → written_plain d room ≡ pass file → Spelled file back.read.model
    → let m = back.read.model in written (rows m ++ R) (length m.objects) (component_count m.objects) (attributes_span m.attributes) file room ≡ pass file
written_twice d room file R back e h = written-again file back.read.model R room h ∙ ap (λ (d : Described). written_plain d room) back.back ∙ e
