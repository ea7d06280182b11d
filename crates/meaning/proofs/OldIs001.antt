-- The layout 1.0, written out: what the judgement of document 001's manifests is, field by field in the order that Req 05 asks for.
use Prim.Native.Nat.{ℕ, ◌+◌, ◌-◌, ◌%◌}
use native.Mathlib.Omega.{arith}
use mathlib.Core.List.{List, [], map}
use mathlib.Core.Bool.{true, cond, ◌&&◌}
use mathlib.Core.Option.{Option, none, some}
use mathlib.Core.Path.{◌≡◌, refl}
use lib.ListN.{length, take, drop}
use lib.Seq.{drop-length}
use lib.Dec.{eqb, leb}
use Rattle.meaning.specs.Tree.{Node, note_of}
use Rattle.meaning.specs.Check.{Check, pass, refuse, ◌>>=◌, ◌>>◌, ◌unless◌, in_object, in_component, required, optional, each}
use Rattle.meaning.specs.Text.{ascii, same}
use Rattle.meaning.specs.Refusal.{SHORT, HEADER, BIG, FIT, ALIGN, BOUNDS}
use Rattle.meaning.specs.Limit.{manifest_limit, object_limit, component_limit, alignment}
use Rattle.meaning.specs.Model.{Named, Component, Object, Model}
use Rattle.meaning.specs.Kind.{a_number, a_text, present}
use Rattle.meaning.specs.Layouts.{old, magic}
use Rattle.meaning.specs.Types.{u64}
use Rattle.meaning.specs.Field.{get, field, fields, root_fields, object_fields, component_fields, names}
use Rattle.meaning.specs.Format.{format_rules}
use Rattle.meaning.specs.Judge.{or_else, is_index, inherited, a_dtype, raw, attributes_of, part, shape_of, component, components_of, object, a_version, objects_of, judge}
use Rattle.meaning.specs.Frame.{little, Frame, frame}
use Rattle.meaning.proofs.CurrentIsBase.{bind_assoc}

abbrev old_frame : List ℕ → Check Frame
old_frame file = do
  let n = length file
  SHORT unless leb 16 n
  HEADER unless same magic (take 8 file)
  let size = little (take 8 (drop (n - 8) file))
  BIG unless leb size manifest_limit
  FIT unless (leb 1 size && leb size (n - 16))
  pass (record { start = n - 8 - size; size = size })

-- no footer is asked for
no-footer : (s : List ℕ) → same [] (drop (length s - 0) s) ≡ true
no-footer s = let e : length s - 0 ≡ length s = omega arith in rw (e, drop-length s)

pub frame-old : (file : List ℕ) → frame old file ≡ old_frame file
unfolding frame old
frame-old file = simp no-footer

module _ {P : Type 0} where
  abbrev old_component : ℕ → ℕ → Named P → Check (Component P)
  old_component start code n = do
    ps ← fields old.component n.value
    offset ← required (get (ascii "offset") ps)
    length ← required (get (ascii "length") ps)
    o ← a_number offset
    l ← a_number length
    optional raw (get (ascii "encoding") ps)
    g ← optional a_text (present (get (ascii "digest") ps))
    ALIGN unless eqb (o % alignment) 0
    BOUNDS unless (leb alignment o && leb (o + l) start)
    pass (record { name = n.name; dtype = code; type = none; offset = o; length = l; digest = g; entry = note_of n.value })

  pub component-old : (start code : ℕ) (n : Named P) → component old start (some code) n ≡ old_component start code n
  unfolding component component_fields field old or_else present
  component-old start code n = simp bind_assoc

  abbrev old_object : ℕ → Named P → Check (Object P)
  old_object start n = do
    ps ← fields old.object n.value
    dtype ← required (get (ascii "dtype") ps)
    shape ← required (get (ascii "shape") ps)
    format ← required (get (ascii "format") ps)
    components ← required (get (ascii "components") ps)
    d ← a_dtype old dtype
    s ← shape_of shape
    f ← a_text format
    ns ← names component_limit components
    cs ← each (λ j c. in_component j (old_component start (cond (is_index f.letters c.name.letters) u64 d) c)) 0 ns
    format_rules f.letters s (map part cs)
    pass (record { name = n.name; shape = s; format = f; attributes = none; components = cs })

  pub object-old : (start : ℕ) (n : Named P) → object old start n ≡ old_object start n
  unfolding object object_fields field old inherited components_of
  object-old start n = simp (bind_assoc, component-old)

  abbrev old_judge : ℕ → Node P → Check (Model P)
  old_judge start t = do
    ps ← fields old.root t
    version ← required (get (ascii "version") ps)
    a_version version
    a ← optional attributes_of (get (ascii "attributes") ps)
    tensors ← required (get (ascii "tensors") ps)
    ns ← names object_limit tensors
    os ← each (λ i o. in_object i (old_object start o)) 0 ns
    pass (record { attributes = a; objects = os })

  pub judge-old : (start : ℕ) (t : Node P) → judge old start t ≡ old_judge start t
  unfolding judge root_fields field old objects_of
  judge-old start t = simp (bind_assoc, object-old)
