-- A component's judgement in pieces, one for each function, and what the whole walk answers.
use Rattle.std.specs.Prelude.{ℕ, suc, List, Bool, cond, not, ◌&&◌, ◌≡◌, get_or, replicate, eqb, Ok, Err, Result}
use Rattle.std.proofs.Math.Option.{Option}
use Rattle.meaning.specs.Tree.{Node, Pair}
use Rattle.meaning.specs.Check.{Check, pass, refuse, fault, ◌>>=◌, ◌>>◌, optional}
use Rattle.meaning.specs.Notes.{map_check}
use Rattle.meaning.specs.Model.{Word, Component}
use Rattle.meaning.specs.Kind.{kind, mapping, a_number, a_text, present}
use Rattle.meaning.specs.Layouts.{Layout}
use Rattle.meaning.specs.Judge.{a_type, raw, component}
use Rattle.lengths.specs.Place.{place_rule}
use Rattle.walk.specs.Reading.{Ends, Reads, Chain, Due, foldl}
use Rattle.fields.specs.Slots.{marks, Stands, Holds}
use Rattle.component.specs.declared.Judged.{Judged}
use Rattle.component.specs.declared.judge.Stored.{Stored}
use Rattle.component.specs.declared.judge.Stretch.{Stretch}
use Rattle.component.specs.Value.{left_word, place_of, code_of}
use Rattle.numbers.specs.declared.refusal.Refusal.{Refusal}
use Rattle.numbers.specs.declared.refusal.Refusal.TheVariants as refusals
use Rattle.numbers.specs.Numbered.{number_of}
use Rattle.numbers.specs.Answered.{answered}

-- the slots p after pairs that are due at s, from the slots z
abbrev pub Placed : Layout → ℕ → ℕ → List ℕ → List ℕ → List ℕ → Type 0
Placed L mode count s z p = (ps : List (Pair Ends)) (r : List ℕ) → Due 27 mode count s ps r → p ≡ foldl (marks L.component) z ps

-- a dtype is missing where `left` bytes are left at it; in layout 1.0 a component has none
unfoldable pub lacks_dtype : ℕ → ℕ → Bool
lacks_dtype layout left = not (eqb layout 1) && eqb left 0

-- keys, repeats, missing fields: what the slots say
unfoldable pub known : ℕ → List ℕ → Result (Unit {0}) Refusal
known layout p =
    cond (eqb (get_or p 8 0) 0)
    (cond (eqb (get_or p 9 0) 0)
    (cond (lacks_dtype layout (get_or p 0 0)) (Err refusals.Missing)
    (cond (eqb (get_or p 2 0) 0) (Err refusals.Missing)
    (cond (eqb (get_or p 3 0) 0) (Err refusals.Missing) (Ok tt))))
    (Err refusals.Twice))
    (Err refusals.Key)

-- ---------------------------------------------------------------- dtype and type

pub record Kept : Type 0 where
  pub dtype : ℕ
  pub type : Option (Word Ends)

unfoldable pub storage : Layout → Option ℕ → Option (Node Ends) → Option (Node Ends) → Check Kept
storage L above dtype type = do
  d ← code_of L above dtype
  t ← optional (a_type d) (present type)
  pass (record { dtype = d; type = t })

abbrev pub stored : Result Stored Refusal → Check (ℕ × ℕ)
stored (Err n) = fault (number_of n)
stored (Ok v) = pass (v.code, v.kind)

abbrev pub places_of : Kept → ℕ × ℕ
places_of k = (k.dtype, left_word k.type)

abbrev pub StorageAt : Layout → Option ℕ → List ℕ → ℕ → ℕ → Result Stored Refusal → Type 0
StorageAt L above s a b r = (d : ℕ) (x y : Option (Node Ends)) → Holds (suc d) s a x → Holds (suc d) s b y → map_check places_of (storage L above x y) ≡ stored r

-- ---------------------------------------------------------------- offset and length

pub record Reach : Type 0 where
  pub offset : ℕ
  pub length : ℕ

unfoldable pub extent : Node Ends → Node Ends → Check Reach
extent offset length = do
  o ← a_number offset
  l ← a_number length
  pass (record { offset = o; length = l })

abbrev pub reached : Result Stretch Refusal → Check Reach
reached (Err n) = fault (number_of n)
reached (Ok v) = pass (record { offset = v.offset; length = v.length })

abbrev pub ExtentAt : List ℕ → ℕ → ℕ → Result Stretch Refusal → Type 0
ExtentAt s a b r = (d : ℕ) (x y : Node Ends) → Stands (suc d) s a x → Stands (suc d) s b y → extent x y ≡ reached r

-- ---------------------------------------------------------------- uncompressed length, encoding, digest

unfoldable pub extras : Option (Node Ends) → Option (Node Ends) → Option (Node Ends) → Check (Option (Word Ends))
extras unpacked encoding digest = do
  optional a_number (present unpacked)
  optional raw encoding
  optional a_text (present digest)

abbrev pub ExtrasAt : List ℕ → ℕ → ℕ → ℕ → Result ℕ Refusal → Type 0
ExtrasAt s a b c r = (d : ℕ) (u e g : Option (Node Ends)) → Holds (suc d) s a u → Holds (suc d) s b e → Holds (suc d) s c g → place_of (extras u e g) ≡ answered r

-- ---------------------------------------------------------------- the whole

-- what is answered of a component, and that a refusal comes before it
abbrev pub judged : Check (Component Ends) → Check Judged
judged (pass c) = pass (record { code = c.dtype; kind = left_word c.type; offset = c.offset; length = c.length; digest = left_word c.digest })
judged (refuse n o c) = fault n

abbrev pub unless_no : Check (Unit {0}) → Judged → Check Judged
unless_no (pass a) r = pass r
unless_no (refuse n o c) r = fault n

abbrev pub judged_place : ℕ → Stored → Stretch → ℕ → Check Judged
judged_place start s x g = unless_no (place_rule start x.offset x.length) (record { code = s.code; kind = s.kind; offset = x.offset; length = x.length; digest = g })

-- the fields of a component that has all it needs, and where they stand
pub record Fields : Type 0 where
  pub dtype : Option (Node Ends)
  pub type : Option (Node Ends)
  pub offset : Node Ends
  pub length : Node Ends
  pub unpacked : Option (Node Ends)
  pub encoding : Option (Node Ends)
  pub digest : Option (Node Ends)

pub record Found (d : ℕ) (s p : List ℕ) (f : Fields) : Type 0 where
  pub dtype : Holds (suc d) s (get_or p 0 0) f.dtype
  pub type : Holds (suc d) s (get_or p 1 0) f.type
  pub offset : Stands (suc d) s (get_or p 2 0) f.offset
  pub length : Stands (suc d) s (get_or p 3 0) f.length
  pub unpacked : Holds (suc d) s (get_or p 4 0) f.unpacked
  pub encoding : Holds (suc d) s (get_or p 5 0) f.encoding
  pub digest : Holds (suc d) s (get_or p 6 0) f.digest

-- under this name, with this annotation of its map
unfoldable pub sound : Layout → Option ℕ → ℕ → Word Ends → Ends → Fields → Check (Component Ends)
sound L above start n e f = do
  k ← storage L above f.dtype f.type
  x ← extent f.offset f.length
  g ← extras f.unpacked f.encoding f.digest
  place_rule start x.offset x.length
  pass (record { name = n; dtype = k.dtype; type = k.type; offset = x.offset; length = x.length; digest = g; entry = e })

abbrev pub SoundIs : Layout → Option ℕ → List ℕ → ℕ → List ℕ → Result Judged Refusal → Type 0
SoundIs L above s start p r = (d : ℕ) (f : Fields) → Found d s p f → (n : Word Ends) (e : Ends) → answered r ≡ judged (sound L above start n e f)

-- for every map of the pairs that are read from s on, where p holds their slots
abbrev pub VerdictIs : Layout → Option ℕ → List ℕ → ℕ → List ℕ → Result Judged Refusal → Type 0
VerdictIs L above s start p r = (d : ℕ) (ps : List (Pair Ends)) (q : List ℕ) → Chain (suc d) s ps q → p ≡ foldl (marks L.component) (replicate 10 0) ps
    → (t : Node Ends) → kind t ≡ mapping ps → (n : Word Ends) → answered r ≡ judged (component L start above (record { name = n; value = t }))

abbrev pub ComponentIs : Layout → Option ℕ → List ℕ → ℕ → Result Judged Refusal → Type 0
ComponentIs L above s start r = (t : Node Ends) (q : List ℕ) → Reads 28 s t q → (n : Word Ends) → answered r ≡ judged (component L start above (record { name = n; value = t }))
