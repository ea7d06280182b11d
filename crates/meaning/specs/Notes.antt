-- Changing the annotations of a verdict.
use Rattle.std.specs.Prelude.{map}
use Rattle.std.proofs.Math.Option.{Option, none, some}
use Rattle.meaning.specs.Tree.{Pair, map_p, nothing}
use Rattle.meaning.specs.Check.{Check, pass, refuse}
use Rattle.meaning.specs.Model.{Word, Named, RootFields, ObjectFields, ComponentFields, Component, Object, Model}
use Rattle.meaning.specs.Kind.{Kind, number, words, list, mapping, null, another}

module _ {A B : Type 0} where
  abbrev pub map_check : (A → B) → Check A → Check B
  map_check g (pass a) = pass (g a)
  map_check g (refuse n o c) = refuse n o c

  abbrev pub map_option : (A → B) → Option A → Option B
  map_option g none = none
  map_option g (some a) = some (g a)

module _ {P Q : Type 0} (f : P → Q) where
  abbrev pub map_word : Word P → Word Q
  map_word w = record { note = f w.note; letters = w.letters }

  abbrev pub map_pair : Pair P → Pair Q
  map_pair p = record { key = map_p f p.key; value = map_p f p.value }

  abbrev pub map_named : Named P → Named Q
  map_named n = record { name = map_word n.name; value = map_p f n.value }

  abbrev pub map_kind : Kind P → Kind Q
  map_kind (number n) = number n
  map_kind (words w) = words (map_word w)
  map_kind (list l) = list (map (map_p f) l)
  map_kind (mapping l) = mapping (map map_pair l)
  map_kind null = null
  map_kind another = another

  abbrev pub map_root : RootFields P → RootFields Q
  map_root r = record { version = map_option (map_p f) r.version; attributes = map_option (map_p f) r.attributes; objects = map_option (map_p f) r.objects }

  abbrev pub map_object_fields : ObjectFields P → ObjectFields Q
  map_object_fields r = record {
    dtype = map_option (map_p f) r.dtype;
    shape = map_option (map_p f) r.shape;
    format = map_option (map_p f) r.format;
    attributes = map_option (map_p f) r.attributes;
    components = map_option (map_p f) r.components;
  }

  abbrev pub map_component_fields : ComponentFields P → ComponentFields Q
  map_component_fields r = record {
    dtype = map_option (map_p f) r.dtype;
    type = map_option (map_p f) r.type;
    offset = map_option (map_p f) r.offset;
    length = map_option (map_p f) r.length;
    uncompressed-length = map_option (map_p f) r.uncompressed-length;
    encoding = map_option (map_p f) r.encoding;
    digest = map_option (map_p f) r.digest;
  }

  abbrev pub map_component : Component P → Component Q
  map_component c = record {
    name = map_word c.name;
    dtype = c.dtype;
    type = map_option map_word c.type;
    offset = c.offset;
    length = c.length;
    digest = map_option map_word c.digest;
    entry = f c.entry;
  }

  abbrev pub map_object : Object P → Object Q
  map_object o = record {
    name = map_word o.name;
    shape = o.shape;
    format = map_word o.format;
    attributes = map_option (map_p f) o.attributes;
    components = map map_component o.components;
  }

  abbrev pub map_model : Model P → Model Q
  map_model m = record { attributes = map_option (map_p f) m.attributes; objects = map map_object m.objects }

-- a verdict with the annotations forgotten
abbrev pub bare : {P : Type 0} → Check (Model P) → Check (Model (Unit {0}))
bare = map_check (map_model nothing)
