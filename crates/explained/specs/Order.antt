-- Document 01, "Order", with the places that request 08 asks for. One line for each item of that paragraph: the number, what is shown when it breaks, and what is asked.
-- Lines with an arrow name a thing that further checks look at; where there is none, those are not made.
use Rattle.std.specs.Prelude.{ℕ, ◌+◌, ◌*◌, ◌%◌, List, [], ◌∷◌, map, Bool, true, cond, not, ◌&&◌, length, get_or, eqb, leb}
use Rattle.std.proofs.Math.Option.{Option, none, some}
use Rattle.meaning.specs.Tree.{Node, Pair, note_of}
use Rattle.meaning.specs.Check.{Check, pass, refuse, optional, each}
use Rattle.meaning.specs.Text.{ascii, same, one_of, utf8}
use Rattle.meaning.specs.Version.{version_shape, major_one}
use Rattle.meaning.specs.Refusal.{KIND, KEY, TEXT, TWICE, MISSING, VERSION, MAJOR, COUNT, DTYPE, ENCODING, TYPE, ALIGN, BOUNDS, RANK, ROLE, LENGTH}
use Rattle.meaning.specs.Limit.{object_limit, component_limit, rank_limit, alignment}
use Rattle.meaning.specs.Model.{Named}
use Rattle.meaning.specs.Kind.{a_number, a_word, a_list, a_mapping, a_text, present}
use Rattle.meaning.specs.Layouts.{Layout, Slots, somes}
use Rattle.meaning.specs.Field.{is_some, key_of, field, name_of, names}
use Rattle.meaning.specs.Types.{code_from, logicals, listed, fits_over, product}
use Rattle.meaning.specs.Format.{Part, Role, unit, role, plain, whole}
use Rattle.meaning.specs.Judge.{or_else, inherited, a_dtype, shape_of, part, components_of}
use Rattle.explained.specs.Fields.{root, object, component, dtype_on, attributes_on, version_of, objects_field, shape_field, format_of, components_field, type_of, offset_of, length_of, unpacked_of, encoding_of, digest_of}
use Rattle.explained.specs.Lengths.{elements_fit, whole_fits, indices_fit}
use Rattle.explained.specs.Step.{Step, ◌at◌unless◌, ◌>>=◌, ◌>>◌, in_object, in_component, given, passes, every, each_of}

-- a key that is known does not stand among those before it
unfoldable pub fresh : List (List ℕ) → List (List ℕ) → Option (List ℕ) → Bool
fresh known before none = true
fresh known before (some k) = not (one_of known k && one_of before k)

unfoldable pub more : List (List ℕ) → Option (List ℕ) → List (List ℕ)
more before none = before
more before (some k) = k ∷ before

-- those that a check gives, none if it refuses
unfoldable pub all_of : {A : Type 0} → Check (List A) → List A
all_of (pass l) = l
all_of (refuse n o c) = []

module _ {P : Type 0} where
  -- ---------------------------------------------------------------- values

  unfoldable pub number_steps : Node P → List (Step P)
  number_steps t = KIND at note_of t unless passes (a_number t)

  unfoldable pub word_steps : Node P → List (Step P)
  word_steps t = KIND at note_of t unless passes (a_word t)

  unfoldable pub mapping_steps : Node P → List (Step P)
  mapping_steps t = KIND at note_of t unless passes (a_mapping t)

  unfoldable pub text_steps : Node P → List (Step P)
  text_steps t = do
    word_steps t
    w ← given (a_word t)
    TEXT at note_of t unless utf8 w.letters

  unfoldable pub dtype_steps : Layout → Node P → List (Step P)
  dtype_steps L t = do
    word_steps t
    w ← given (a_word t)
    DTYPE at note_of t unless is_some (code_from 0 L.dtypes w.letters)

  unfoldable pub type_steps : ℕ → Node P → List (Step P)
  type_steps d t = do
    text_steps t
    w ← given (a_text t)
    TYPE at note_of t unless fits_over d (listed logicals w.letters)

  unfoldable pub raw_steps : Node P → List (Step P)
  raw_steps t = do
    word_steps t
    w ← given (a_word t)
    ENCODING at note_of t unless same (ascii "raw") w.letters

  unfoldable pub version_steps : Node P → List (Step P)
  version_steps t = do
    word_steps t
    w ← given (a_word t)
    VERSION at note_of t unless version_shape w.letters
    MAJOR at note_of t unless major_one w.letters

  -- each element's kind, then the rank
  unfoldable pub shape_steps : Node P → List (Step P)
  shape_steps t = do
    KIND at note_of t unless passes (a_list t)
    dims ← given (a_list t)
    every KIND note_of (λ d. passes (a_number d)) dims
    s ← given (each (λ i. a_number) 0 dims)
    COUNT at note_of t unless leb (length s) rank_limit

  -- ---------------------------------------------------------------- maps

  unfoldable pub key_steps : List (Pair P) → List (Step P)
  key_steps = every KEY (λ p. note_of p.key) (λ p. is_some (key_of p))

  -- a known field's second copy, and any further one
  unfoldable pub repeat_steps : List (List ℕ) → List (List ℕ) → List (Pair P) → List (Step P)
  repeat_steps known before [] = []
  repeat_steps known before (p ∷ ps) = do
    TWICE at note_of p.key unless fresh known before (key_of p)
    repeat_steps known (more before (key_of p)) ps

  -- kind, keys, repeats
  unfoldable pub field_steps : Slots → Node P → List (Step P)
  field_steps known t = do
    mapping_steps t
    ps ← given (a_mapping t)
    key_steps ps
    repeat_steps (somes known) [] ps

  unfoldable pub missing : {A : Type 0} → Node P → Option A → List (Step P)
  missing t v = MISSING at note_of t unless is_some v

  -- missing where the layout has the field
  unfoldable pub missing_in : Option (List ℕ) → Node P → Option (Node P) → List (Step P)
  missing_in none t v = []
  missing_in (some n) t v = missing t v

  unfoldable pub same_name_steps : List (List ℕ) → List (Named P) → List (Step P)
  same_name_steps before [] = []
  same_name_steps before (n ∷ ns) = do
    TWICE at n.name.note unless not (one_of before n.name.letters)
    same_name_steps (n.name.letters ∷ before) ns

  -- kind, keys, UTF-8, count, repeats
  unfoldable pub name_steps : ℕ → Node P → List (Step P)
  name_steps limit t = do
    mapping_steps t
    ps ← given (a_mapping t)
    key_steps ps
    ns ← given (each (λ i. name_of) 0 ps)
    every TEXT (λ n. n.name.note) (λ n. utf8 n.name.letters) ns
    COUNT at note_of t unless leb (length ns) limit
    same_name_steps [] ns

  -- ---------------------------------------------------------------- a component

  -- with the code that its object gives it
  unfoldable pub component_steps : Layout → ℕ → Option ℕ → Named P → List (Step P)
  component_steps L start above n = do
    field_steps L.component n.value
    ps ← given (a_mapping n.value)
    missing_in (dtype_on L component) n.value (field (dtype_on L component) ps)
    missing n.value (field (offset_of L) ps)
    missing n.value (field (length_of L) ps)
    offset ← field (offset_of L) ps
    length ← field (length_of L) ps
    field (dtype_on L component) ps >>= dtype_steps L
    own ← given (optional (a_dtype L) (field (dtype_on L component) ps))
    missing n.value (or_else own above)
    d ← or_else own above
    present (field (type_of L) ps) >>= type_steps d
    number_steps offset
    o ← given (a_number offset)
    number_steps length
    l ← given (a_number length)
    present (field (unpacked_of L) ps) >>= number_steps
    field (encoding_of L) ps >>= raw_steps
    present (field (digest_of L) ps) >>= text_steps
    ALIGN at note_of offset unless eqb (o % alignment) 0
    BOUNDS at note_of offset unless (leb alignment o && leb (o + l) start)

  unfoldable pub components_steps : Layout → ℕ → (List ℕ → Option ℕ) → Node P → List (Step P)
  components_steps L start above t = do
    name_steps component_limit t
    ns ← given (names component_limit t)
    each_of (λ j n. map (in_component j (some n.name)) (component_steps L start (above n.name.letters) n)) 0 ns

  -- ---------------------------------------------------------------- the format's rules

  unfoldable pub note_or : P → Option (Node P) → P
  note_or w none = w
  note_or w (some t) = note_of t

  unfoldable pub length_in : Layout → P → Option (List (Pair P)) → P
  length_in L w none = w
  length_in L w (some ps) = note_or w (field (length_of L) ps)

  -- a component's length, where it stands
  unfoldable pub length_note : Layout → Named P → P
  length_note L n = length_in L (note_of n.value) (given (a_mapping n.value))

  -- of an object: the annotations of its shape and of its components' map, its shape, the named components, and what the rules look at in them
  module _ (L : Layout) (shape_note map_note : P) (shape : List ℕ) (ns : List (Named P)) (cs : List Part) where
    unfoldable pub of_role : Role → List (Step P) → List (Step P)
    of_role r = map (in_component r.index (get_or (map (λ n. some n.name) ns) r.index none))

    unfoldable pub role_steps : List ℕ → List (Step P)
    role_steps n = ROLE at map_note unless passes (role n 0 cs)

    unfoldable pub plain_steps : Role → List (Step P)
    plain_steps r = of_role r (ROLE at get_or (map (λ n. note_of n.value) ns) r.index map_note unless plain r.part)

    unfoldable pub length_steps : Role → Bool → List (Step P)
    length_steps r b = of_role r (LENGTH at get_or (map (length_note L) ns) r.index map_note unless b)

    unfoldable pub dense_steps : List (Step P)
    dense_steps = do
      role_steps (ascii "data")
      d ← given (role (ascii "data") 0 cs)
      length_steps d (elements_fit d.part (product shape) (unit d.part))

    unfoldable pub csr_steps : List (Step P)
    csr_steps = do
      RANK at shape_note unless eqb (length shape) 2
      role_steps (ascii "values")
      values ← given (role (ascii "values") 0 cs)
      role_steps (ascii "indices")
      indices ← given (role (ascii "indices") 0 cs)
      plain_steps indices
      role_steps (ascii "indptr")
      indptr ← given (role (ascii "indptr") 0 cs)
      plain_steps indptr
      length_steps values (whole_fits values.part (unit values.part))
      n ← given (whole values)
      length_steps indices (indices_fit indices.part 8 n)
      length_steps indptr (eqb indptr.part.size (8 * (get_or shape 0 0 + 1)))

    unfoldable pub coo_steps : List (Step P)
    coo_steps = do
      role_steps (ascii "values")
      values ← given (role (ascii "values") 0 cs)
      role_steps (ascii "coords")
      coords ← given (role (ascii "coords") 0 cs)
      plain_steps coords
      length_steps values (whole_fits values.part (unit values.part))
      n ← given (whole values)
      length_steps coords (indices_fit coords.part (8 * length shape) n)

    unfoldable pub group_steps : List (Step P)
    group_steps = do
      role_steps (ascii "packed_weight")
      role_steps (ascii "scales")
      role_steps (ascii "zeros")

    unfoldable pub format_steps : List ℕ → List (Step P)
    format_steps f =
        cond (same (ascii "dense") f) dense_steps
        (cond (same (ascii "sparse_csr") f) csr_steps
        (cond (same (ascii "sparse_coo") f) coo_steps
        (cond (same (ascii "quantized_group") f) group_steps
        [])))

  -- ---------------------------------------------------------------- objects, the root

  unfoldable pub object_steps : Layout → ℕ → Named P → List (Step P)
  object_steps L start n = do
    field_steps L.object n.value
    ps ← given (a_mapping n.value)
    missing_in (dtype_on L object) n.value (field (dtype_on L object) ps)
    missing n.value (field (shape_field L) ps)
    missing n.value (field (format_of L) ps)
    missing n.value (field (components_field L) ps)
    shape ← field (shape_field L) ps
    format ← field (format_of L) ps
    components ← field (components_field L) ps
    field (dtype_on L object) ps >>= dtype_steps L
    d ← given (optional (a_dtype L) (field (dtype_on L object) ps))
    shape_steps shape
    s ← given (shape_of shape)
    text_steps format
    f ← given (a_text format)
    field (attributes_on L object) ps >>= mapping_steps
    components_steps L start (inherited f.letters d) components
    cs ← given (components_of L start (inherited f.letters d) components)
    format_steps L (note_of shape) (note_of components) s (all_of (names component_limit components)) (map part cs) f.letters

  unfoldable pub objects_steps : Layout → ℕ → Node P → List (Step P)
  objects_steps L start t = do
    name_steps object_limit t
    ns ← given (names object_limit t)
    each_of (λ i n. map (in_object i (some n.name)) (object_steps L start n)) 0 ns

  unfoldable pub manifest_steps : Layout → ℕ → Node P → List (Step P)
  manifest_steps L start t = do
    field_steps L.root t
    ps ← given (a_mapping t)
    missing t (field (version_of L) ps)
    version ← field (version_of L) ps
    version_steps version
    field (attributes_on L root) ps >>= mapping_steps
    missing t (field (objects_field L) ps)
    objects ← field (objects_field L) ps
    objects_steps L start objects
