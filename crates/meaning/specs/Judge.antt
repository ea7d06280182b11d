-- Document 01, "Order": the judgement of a manifest that is well-formed, over trees with any annotation. One line for each item of that paragraph.
use Rattle.std.specs.Prelude.{ℕ, ◌+◌, ◌%◌, List, map, Bool, cond, ◌&&◌, ◌||◌, length, eqb, leb}
use Rattle.std.proofs.Math.Option.{Option, none, some}
use Rattle.meaning.specs.Tree.{Node, note_of}
use Rattle.meaning.specs.Check.{Check, pass, ◌>>=◌, ◌>>◌, ◌unless◌, fault, in_object, in_component, required, required_in, optional, each}
use Rattle.meaning.specs.Text.{ascii, same}
use Rattle.meaning.specs.Version.{version_shape, major_one}
use Rattle.meaning.specs.Refusal.{VERSION, MAJOR, COUNT, DTYPE, ENCODING, TYPE, ALIGN, BOUNDS}
use Rattle.meaning.specs.Limit.{object_limit, component_limit, rank_limit, alignment}
use Rattle.meaning.specs.Model.{Word, Named, Component, Object, Model}
use Rattle.meaning.specs.Layouts.{Layout, slot, dtype_at}
use Rattle.meaning.specs.Kind.{a_number, a_word, a_list, a_mapping, a_text, present}
use Rattle.meaning.specs.Field.{root_fields, object_fields, component_fields, names}
use Rattle.meaning.specs.Types.{u64, code_from, logicals, listed, fits_over}
use Rattle.meaning.specs.Format.{Part, format_rules}

unfoldable pub code_or : Option ℕ → Check ℕ
code_or none = fault DTYPE
code_or (some c) = pass c

-- the first that is there
unfoldable pub or_else : Option ℕ → Option ℕ → Option ℕ
or_else none o = o
or_else (some c) o = some c

-- is this role of this format needed as an index?
unfoldable pub is_index : List ℕ → List ℕ → Bool
is_index format role =
    same (ascii "sparse_csr") format && (same (ascii "indices") role || same (ascii "indptr") role)
    || same (ascii "sparse_coo") format && same (ascii "coords") role

-- the code that a dtype on the object gives to a component: u64 to an index role, else the object's
unfoldable pub inherited : List ℕ → Option ℕ → List ℕ → Option ℕ
inherited format none role = none
inherited format (some c) role = some (cond (is_index format role) u64 c)

module _ (L : Layout) {P : Type 0} where
  unfoldable pub a_dtype : Node P → Check ℕ
  a_dtype t = do
    w ← a_word t
    code_or (code_from 0 L.dtypes w.letters)

module _ {P : Type 0} where
  unfoldable pub a_type : ℕ → Node P → Check (Word P)
  a_type d t = do
    w ← a_text t
    TYPE unless fits_over d (listed logicals w.letters)
    pass w

  unfoldable pub raw : Node P → Check (Unit {0})
  raw t = do
    w ← a_word t
    ENCODING unless same (ascii "raw") w.letters

  unfoldable pub attributes_of : Node P → Check (Node P)
  attributes_of t = do
    a_mapping t
    pass t

  -- a component of a file whose manifest begins at `start`, with the code that its object gives it
  unfoldable pub component : Layout → ℕ → Option ℕ → Named P → Check (Component P)
  component L start above n = do
    c ← component_fields L.component n.value
    dtype ← required_in (slot dtype_at L.component) c.dtype
    offset ← required c.offset
    length ← required c.length
    own ← optional (a_dtype L) dtype
    d ← required (or_else own above)
    t ← optional (a_type d) (present c.type)
    o ← a_number offset
    l ← a_number length
    optional a_number (present c.uncompressed-length)
    optional raw c.encoding
    g ← optional a_text (present c.digest)
    ALIGN unless eqb (o % alignment) 0
    BOUNDS unless (leb alignment o && leb (o + l) start)
    pass (record { name = n.name; dtype = d; type = t; offset = o; length = l; digest = g; entry = note_of n.value })

  unfoldable pub letters_of : Option (Word P) → Option (List ℕ)
  letters_of none = none
  letters_of (some w) = some w.letters

  unfoldable pub part : Component P → Part
  part c = record { called = c.name.letters; code = c.dtype; typed = letters_of c.type; size = c.length }

  -- an array of unsigned integers, its rank within the limit
  unfoldable pub shape_of : Node P → Check (List ℕ)
  shape_of t = do
    dims ← a_list t
    s ← each (λ i. a_number) 0 dims
    COUNT unless leb (length s) rank_limit
    pass s

  -- names, then each component in turn
  unfoldable pub components_of : Layout → ℕ → (List ℕ → Option ℕ) → Node P → Check (List (Component P))
  components_of L start above t = do
    ns ← names component_limit t
    each (λ j c. in_component j (component L start (above c.name.letters) c)) 0 ns

  unfoldable pub object : Layout → ℕ → Named P → Check (Object P)
  object L start n = do
    o ← object_fields L.object n.value
    dtype ← required_in (slot dtype_at L.object) o.dtype
    shape ← required o.shape
    format ← required o.format
    components ← required o.components
    d ← optional (a_dtype L) dtype
    s ← shape_of shape
    f ← a_text format
    a ← optional attributes_of o.attributes
    cs ← components_of L start (inherited f.letters d) components
    format_rules f.letters s (map part cs)
    pass (record { name = n.name; shape = s; format = f; attributes = a; components = cs })

  unfoldable pub a_version : Node P → Check (Unit {0})
  a_version t = do
    v ← a_word t
    VERSION unless version_shape v.letters
    MAJOR unless major_one v.letters

  -- names, then each object in turn, finished before the next
  unfoldable pub objects_of : Layout → ℕ → Node P → Check (List (Object P))
  objects_of L start t = do
    ns ← names object_limit t
    each (λ i o. in_object i (object L start o)) 0 ns

  unfoldable pub judge : Layout → ℕ → Node P → Check (Model P)
  judge L start t = do
    r ← root_fields L.root t
    version ← required r.version
    a_version version
    a ← optional attributes_of r.attributes
    objects ← required r.objects
    os ← objects_of L start objects
    pass (record { attributes = a; objects = os })
