-- What is spelled in a file of bytes shorter than 2 ^ 64 makes a fine description, if dimensions and counts fit.
use Prim.Native.Nat.{ℕ, ◌≤◌}
use native.Mathlib.Omega.{arith}
use mathlib.Core.List.{List, [], ◌∷◌, map}
use mathlib.Core.Bool.{true}
use mathlib.Core.Option.{Option, none, some}
use mathlib.Core.Path.{◌≡◌, refl, ap}
use lib.ListN.{length, drop, length-map}
use Rattle.meaning.specs.Limit.{object_limit}
use Rattle.meaning.specs.Tree.{Node, note_of}
use Rattle.meaning.specs.Read.{Span, bytes_at}
use Rattle.meaning.specs.Notes.{map_option}
use Rattle.meaning.specs.Model.{Word, Component, Object, Model}
use Rattle.meaning.specs.Judge.{letters_of}
use Rattle.meaning.specs.Rows.{word_span}
use Rattle.meaning.specs.Sound.{a_map, absent_or, root_levels, object_levels}
use Rattle.meaning.specs.Described.{read_component, read_object, described_by}
use Rattle.meaning.proofs.Lengths.{take-shorter, drop-shorter}
use Rattle.meaning.specs.Every.{IfAny, Every}
use Rattle.meaning.proofs.Every.{every_map}
use Rattle.readback.specs.Fine.{Brief, BriefOption, FineComponent, FineObject, Fine}
use Rattle.readback.specs.Spelled.{SpelledWord, SpelledMap, SpelledComponent, SpelledObject, Spelled}
use Rattle.roundtrip.specs.Sized.{SizedObject, Sized}

module _ (file : List ℕ) (small : Brief file) where
  part-brief : (s : Span) → Brief (bytes_at file s)
  part-brief s = omega (arith, take-shorter s.size (drop s.place file), drop-shorter s.place file, small)

  word-brief : (w : Word Span) → SpelledWord file w → Brief w.letters
  word-brief w h = let e : length (bytes_at file (word_span w)) ≡ length w.letters = ap length h.spelled in omega (arith, e, part-brief (word_span w))

  option-brief : (o : Option (Word Span)) → IfAny (SpelledWord file) o → BriefOption (letters_of o)
  unfolding letters_of
  option-brief none h = tt
  option-brief (some w) h = word-brief w h

  attributes-fine : (levels : ℕ) (o : Option (Node Span)) → IfAny (SpelledMap file levels) o → absent_or (a_map levels) (map_option (λ t. bytes_at file (note_of t)) o) ≡ true
  unfolding absent_or
  attributes-fine levels none h = refl
  attributes-fine levels (some t) h = h.well-formed

  component-fine : (c : Component Span) → SpelledComponent file c → FineComponent (read_component file c)
  unfolding read_component
  component-fine c h = record {
    name = word-brief c.name h.name;
    dtype = h.dtype;
    type = option-brief c.type h.type;
    digest = option-brief c.digest h.digest;
    blob = part-brief (record { place = c.offset; size = c.length });
  }

  object-fine : (o : Object Span) → SpelledObject file o → SizedObject o → FineObject (read_object file o)
  unfolding read_object
  object-fine o h s = record {
    name = word-brief o.name h.name;
    rank = h.rank;
    shape = s.shape;
    format = word-brief o.format h.format;
    attributes = attributes-fine object_levels o.attributes h.attributes;
    count = let a = s.count in rw (length-map o.components (read_component file)) (omega (arith, a));
    components = every_map (SpelledComponent file) FineComponent (read_component file) o.components component-fine h.components;
  }

  objects-fine : (os : List (Object Span)) → Every (SpelledObject file) os → Every SizedObject os → Every FineObject (map (read_object file) os)
  objects-fine [] h s = tt
  objects-fine (o ∷ os) (h, hs) (s, ss) = (object-fine o h s, objects-fine os hs ss)

  pub spelled-fine : (m : Model Span) → Spelled file m → Sized m → Fine (described_by file m)
  unfolding described_by
  spelled-fine m h s = record {
    attributes = attributes-fine root_levels m.attributes h.attributes;
    count = let a = s.count in rw (length-map m.objects (read_object file)) (omega (arith, a));
    objects = objects-fine m.objects h.objects s.objects;
  }

  pub count-within : (m : Model Span) → Sized m → length (described_by file m).objects ≤ object_limit
  unfolding described_by
  count-within m s = let a = s.count in rw (length-map m.objects (read_object file)) (omega (arith, a))
