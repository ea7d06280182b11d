-- An object's judgement in pieces, one for each function, and what the whole walk answers.
use Rattle.std.specs.Prelude.{ℕ, suc, ◌*◌, ◌≤◌, ◌<◌, List, map, Bool, cond, not, ◌&&◌, ◌||◌, ◌≡◌, length, get_or, take, eqb, Ok, Err, Result}
use Rattle.std.proofs.Math.Option.{Option, none}
use Rattle.meaning.specs.Tree.{Node, Pair}
use Rattle.meaning.specs.Check.{Check, pass, refuse, ◌>>=◌, ◌>>◌, optional}
use Rattle.meaning.specs.Notes.{map_check}
use Rattle.meaning.specs.Limit.{component_limit}
use Rattle.meaning.specs.Model.{Word, Object}
use Rattle.meaning.specs.Kind.{kind, mapping, a_text}
use Rattle.meaning.specs.Layouts.{Layout, layout_of}
use Rattle.meaning.specs.Format.{Part, format_rules}
use Rattle.meaning.specs.Judge.{inherited, a_dtype, attributes_of, shape_of, components_of, part, object}
use Rattle.types.specs.Known.{position, format_names}
use Rattle.walk.specs.Reading.{Ends, Reads, Chain}
use Rattle.fields.specs.Slots.{Stands, Holds}
use Rattle.fields.specs.FieldWalk as keeping
use Rattle.formats.specs.Parts.{part_rows}
use Rattle.table.specs.Given.{offered, Whichever}
use Rattle.components.specs.Firsts.{FoundIs}
use Rattle.component.specs.Value.{given}
use Rattle.object.specs.declared.judge.Measured.{Measured}
use Rattle.object.specs.Place.{format_code}
use Rattle.numbers.specs.declared.refusal.Refusal.{Refusal}
use Rattle.numbers.specs.declared.fault.ObjectFault.{ObjectFault}
use Rattle.numbers.specs.declared.refusal.Refusal.TheVariants as refusals
use Rattle.numbers.specs.Answered.{answered, in_object}

-- a dtype is missing where `left` bytes are left at it; only a 1.0 tensor needs one
unfoldable pub lacks_dtype : ℕ → ℕ → Bool
lacks_dtype layout left = eqb layout 1 && eqb left 0

-- keys, repeats, missing fields: what the slots say
unfoldable pub known : ℕ → List ℕ → Result (Unit {0}) Refusal
known layout p =
    cond (eqb (get_or p 6 0) 0)
    (cond (eqb (get_or p 7 0) 0)
    (cond (lacks_dtype layout (get_or p 0 0)) (Err refusals.Missing)
    (cond (eqb (get_or p 1 0) 0) (Err refusals.Missing)
    (cond (eqb (get_or p 2 0) 0) (Err refusals.Missing)
    (cond (eqb (get_or p 4 0) 0) (Err refusals.Missing) (Ok tt)))))
    (Err refusals.Twice))
    (Err refusals.Key)

-- ---------------------------------------------------------------- format and attributes

pub record Description : Type 0 where
  pub format : Word Ends
  pub attributes : Option (Node Ends)

unfoldable pub described : Node Ends → Option (Node Ends) → Check Description
described format attributes = do
  f ← a_text format
  a ← optional attributes_of attributes
  pass (record { format = f; attributes = a })

abbrev pub code_of : Description → ℕ
code_of d = format_code d.format

abbrev pub DescribedAt : List ℕ → ℕ → ℕ → Result ℕ Refusal → Type 0
DescribedAt s a b r = (d : ℕ) (x : Node Ends) (y : Option (Node Ends)) → Stands (suc d) s a x → Holds (suc d) s b y → map_check code_of (described x y) ≡ answered r

-- ---------------------------------------------------------------- the format's rules

-- m components and `rank` dimensions, unless the rules refuse them
abbrev pub ruled : Check (Unit {0}) → ℕ → ℕ → Check Measured
ruled (pass a) m rank = pass (record { count = m; rank = rank })
ruled (refuse n o c) m rank = refuse n 0 c

abbrev pub RuledIs : ℕ → List ℕ → ℕ → List ℕ → ℕ → Result Measured ObjectFault → Type 0
RuledIs code dims rank rows m r =
    (f : List ℕ) (cs : List Part) → code ≡ position format_names f → rank ≤ length dims → m ≤ component_limit → take (4 * m) rows ≡ part_rows cs → in_object r ≡ ruled (format_rules f (take rank dims) cs) m rank

-- ---------------------------------------------------------------- the whole

-- how many components it has, and that a refusal belongs to one of them
abbrev pub judged : Check (Object Ends) → Check ℕ
judged (pass o) = pass (length o.components)
judged (refuse n o c) = refuse n 0 c

-- the same, with the rank
abbrev pub measured : Check (Object Ends) → Check Measured
measured (pass o) = pass (record { count = length o.components; rank = length o.shape })
measured (refuse n o c) = refuse n 0 c

-- without it
abbrev pub counted : Result Measured ObjectFault → Result ℕ ObjectFault
counted (Err f) = Err f
counted (Ok v) = Ok v.count

-- the fields of an object that has all it needs, and where they stand
pub record Fields : Type 0 where
  pub dtype : Option (Node Ends)
  pub shape : Node Ends
  pub format : Node Ends
  pub attributes : Option (Node Ends)
  pub components : Node Ends

pub record Standing (layout : ℕ) (s p : List ℕ) (f : Fields) : Type 0 where
  pub dtype : Holds 29 s (get_or p 0 0) f.dtype
  pub shape : Stands 29 s (get_or p 1 0) f.shape
  pub format : Stands 29 s (get_or p 2 0) f.format
  pub attributes : Holds 29 s (get_or p 3 0) f.attributes
  pub components : Stands 29 s (get_or p 4 0) f.components
  -- a dtype stands on the object in layout 1.0, and nowhere else
  pub tensor : layout ≡ 1 → f.dtype ≡ none → ⊥
  pub plain : (layout ≡ 1 → ⊥) → f.dtype ≡ none

-- the fields from the shape on, with the code that a dtype on the object gives
unfoldable pub shaped : Layout → ℕ → Word Ends → Fields → Option ℕ → Check (Object Ends)
shaped L start n f code = do
  s ← shape_of f.shape
  d ← described f.format f.attributes
  cs ← components_of L start (inherited d.format.letters code) f.components
  format_rules d.format.letters s (map part cs)
  pass (record { name = n; shape = s; format = d.format; attributes = d.attributes; components = cs })

unfoldable pub sound : Layout → ℕ → Word Ends → Fields → Check (Object Ends)
sound L start n f = do
  code ← optional (a_dtype L) f.dtype
  shaped L start n f code

-- what was found in the components x and the rows that were put, where they are judged as they are met
abbrev pub Says : ℕ → ℕ → Node Ends → Result ℕ ObjectFault × List ℕ → Type 0
Says layout start x (found, rows) = (layout ≡ 1 → ⊥) → FoundIs (components_of (layout_of layout) start (λ r. none) x) found rows

-- what was found in the components x, which stand where `left` bytes of s are left, of an object with this format and code
abbrev pub LateIs : ℕ → ℕ → ℕ → List ℕ → ℕ → ℕ → Result ℕ ObjectFault → List ℕ → Result ℕ ObjectFault → List ℕ → Type 0
LateIs layout format code s start left found rows found' rows' =
    (x : Node Ends) → Stands 29 s left x → Says layout start x (found, rows) → ((layout ≡ 1 → ⊥) → 13 ≤ code) → Whichever (offered layout format code) λ above.
    FoundIs (components_of (layout_of layout) start above x) found' rows'

abbrev pub ShapedIs : ℕ → ℕ → List ℕ → ℕ → List ℕ → Result ℕ ObjectFault → List ℕ → Result Measured ObjectFault → Type 0
ShapedIs layout d s start p found rows r =
    (f : Fields) → Standing layout s p f → Says layout start f.components (found, rows) → (layout ≡ 1 → d < 13) → ((layout ≡ 1 → ⊥) → 13 ≤ d)
    → (n : Word Ends) → in_object r ≡ measured (shaped (layout_of layout) start n f (given d))

abbrev pub SoundIs : ℕ → List ℕ → ℕ → List ℕ → Result ℕ ObjectFault → List ℕ → Result Measured ObjectFault → Type 0
SoundIs layout s start p found rows r =
    (f : Fields) → Standing layout s p f → Says layout start f.components (found, rows) → (n : Word Ends) → in_object r ≡ measured (sound (layout_of layout) start n f)

-- what is noted of pairs: their slots, and what was found in their components
abbrev pub Noted : ℕ → ℕ → List ℕ → Result ℕ ObjectFault → List ℕ → List (Pair Ends) → Type 0
Noted layout start p found rows = keeping.Noted (layout_of layout).object 5 4 (Says layout start) p (found, rows)

-- for every map of the pairs that are read from s on, where this is noted of them
abbrev pub VerdictIs : ℕ → List ℕ → ℕ → List ℕ → Result ℕ ObjectFault → List ℕ → Result Measured ObjectFault → Type 0
VerdictIs layout s start p found rows r =
    (ps : List (Pair Ends)) (q : List ℕ) → Chain 29 s ps q → Noted layout start p found rows ps → (t : Node Ends) → kind t ≡ mapping ps → (n : Word Ends)
    → in_object r ≡ measured (object (layout_of layout) start (record { name = n; value = t }))

abbrev pub ObjectIs : Layout → List ℕ → ℕ → Result ℕ ObjectFault → Type 0
ObjectIs L s start r = (t : Node Ends) (q : List ℕ) → Reads 30 s t q → (n : Word Ends) → in_object r ≡ judged (object L start (record { name = n; value = t }))

-- no components that are judged where they stand: another field, components again, or layout 1.0
unfoldable pub waiting : ℕ → ℕ → ℕ → Bool
waiting layout k seen = eqb layout 1 || (not (eqb k 4) || not (eqb seen 0))

-- the value that begins c, whose key has slot k, where the slot of `components` holds `seen`: the first components are judged, any other value changes nothing
abbrev pub ValueIs : ℕ → ℕ → ℕ → ℕ → List ℕ → Result ℕ ObjectFault → List ℕ → Result ℕ ObjectFault → List ℕ → Type 0
ValueIs layout start k seen c found rows found' rows' = keeping.ValueIs (layout_of layout).object 5 4 (Says layout start) 29 k seen c (found, rows) (found', rows')
