-- The layout 1.2.0 is what the base had: its frame, component, object and judgement, as they were written before layouts became data.
use Prim.Native.Nat.{ℕ, ◌+◌, ◌-◌, ◌%◌}
use mathlib.Core.List.{List, map}
use mathlib.Core.Bool.{◌&&◌}
use mathlib.Core.Option.{Option, none, some}
use mathlib.Core.Path.{◌≡◌, refl, ap, ◌∙◌}
use lib.ListN.{length, take, drop}
use lib.Dec.{eqb, leb}
use Rattle.meaning.specs.Tree.{Node, note_of}
use Rattle.meaning.specs.Check.{Check, pass, refuse, ◌>>=◌, ◌>>◌, ◌unless◌, in_object, in_component, required, optional, each}
use Rattle.meaning.specs.Text.{ascii, same}
use Rattle.meaning.specs.Refusal.{SHORT, HEADER, FOOTER, BIG, FIT, ALIGN, BOUNDS}
use Rattle.meaning.specs.Limit.{manifest_limit, object_limit, component_limit, alignment}
use Rattle.meaning.specs.Model.{Named, Component, Object, Model}
use Rattle.meaning.specs.Kind.{a_number, a_text, present}
use Rattle.meaning.specs.Layouts.{current, magic}
use Rattle.meaning.specs.Field.{get, field, fields, root_fields, object_fields, component_fields, names}
use Rattle.meaning.specs.Format.{format_rules}
use Rattle.meaning.specs.Judge.{or_else, inherited, a_dtype, a_type, raw, attributes_of, part, shape_of, component, components_of, object, a_version, objects_of, judge}
use Rattle.meaning.specs.Frame.{little, Frame, frame}

module _ {A B C : Type 0} where
  pub bind_assoc : (m : Check A) (k : A → Check B) (h : B → Check C) → ((m >>= k) >>= h) ≡ (m >>= λ a. k a >>= h)
  bind_assoc (pass a) k h = refl
  bind_assoc (refuse n o c) k h = refl

abbrev base_frame : List ℕ → Check Frame
base_frame file = do
  let n = length file
  SHORT unless leb 24 n
  HEADER unless same magic (take 8 file)
  FOOTER unless same magic (drop (n - 8) file)
  let size = little (take 8 (drop (n - 16) file))
  BIG unless leb size manifest_limit
  FIT unless (leb 1 size && leb size (n - 24))
  pass (record { start = n - 16 - size; size = size })

pub frame-current : (file : List ℕ) → frame current file ≡ base_frame file
unfolding frame current magic
frame-current file = refl

module _ {P : Type 0} where
  abbrev base_component : ℕ → Named P → Check (Component P)
  base_component start n = do
    ps ← fields current.component n.value
    dtype ← required (get (ascii "dtype") ps)
    offset ← required (get (ascii "offset") ps)
    length ← required (get (ascii "length") ps)
    d ← a_dtype current dtype
    t ← optional (a_type d) (present (get (ascii "type") ps))
    o ← a_number offset
    l ← a_number length
    optional a_number (present (get (ascii "uncompressed_length") ps))
    optional raw (get (ascii "encoding") ps)
    g ← optional a_text (present (get (ascii "digest") ps))
    ALIGN unless eqb (o % alignment) 0
    BOUNDS unless (leb alignment o && leb (o + l) start)
    pass (record { name = n.name; dtype = d; type = t; offset = o; length = l; digest = g; entry = note_of n.value })

  pub component-current : (start : ℕ) (n : Named P) → component current start none n ≡ base_component start n
  unfolding component component_fields field current or_else
  component-current start n = simp bind_assoc

  abbrev base_object : ℕ → Named P → Check (Object P)
  base_object start n = do
    ps ← fields current.object n.value
    shape ← required (get (ascii "shape") ps)
    format ← required (get (ascii "format") ps)
    components ← required (get (ascii "components") ps)
    s ← shape_of shape
    f ← a_text format
    a ← optional attributes_of (get (ascii "attributes") ps)
    ns ← names component_limit components
    cs ← each (λ j c. in_component j (base_component start c)) 0 ns
    format_rules f.letters s (map part cs)
    pass (record { name = n.name; shape = s; format = f; attributes = a; components = cs })

  pub object-current : (start : ℕ) (n : Named P) → object current start n ≡ base_object start n
  unfolding object object_fields field current inherited components_of
  object-current start n = simp (bind_assoc, component-current)

  abbrev base_judge : ℕ → Node P → Check (Model P)
  base_judge start t = do
    ps ← fields current.root t
    version ← required (get (ascii "version") ps)
    a_version version
    a ← optional attributes_of (get (ascii "attributes") ps)
    objects ← required (get (ascii "objects") ps)
    ns ← names object_limit objects
    os ← each (λ i o. in_object i (base_object start o)) 0 ns
    pass (record { attributes = a; objects = os })

  pub judge-current : (start : ℕ) (t : Node P) → judge current start t ≡ base_judge start t
  unfolding judge root_fields field current objects_of
  judge-current start t = simp (bind_assoc, object-current)
