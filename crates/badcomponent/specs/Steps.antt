-- The checks of a component after those of its entries, over the fields that stand in it; and what is answered of it. Each list goes on with the one before it in this file.
use Rattle.std.specs.Prelude.{ℕ, ◌+◌, ◌%◌, List, Bool, true, cond, ◌&&◌, ◌≡◌, length, get_or, eqb, leb}
use Rattle.std.proofs.Math.Option.{Option}
use Rattle.meaning.specs.Tree.{Node, note_of}
use Rattle.meaning.specs.Check.{optional}
use Rattle.meaning.specs.Refusal.{ALIGN, BOUNDS}
use Rattle.meaning.specs.Limit.{alignment}
use Rattle.meaning.specs.Model.{Word}
use Rattle.meaning.specs.Kind.{a_number, present}
use Rattle.meaning.specs.Layouts.{Layout}
use Rattle.meaning.specs.Judge.{or_else, a_dtype}
use Rattle.walk.specs.Reading.{Ends, Reads}
use Rattle.component.specs.Verdict.{lacks_dtype, Fields, Found}
use Rattle.explained.specs.Step.{Step, first, ◌at◌unless◌, ◌>>=◌, ◌>>◌, given}
use Rattle.explained.specs.Order.{number_steps, text_steps, dtype_steps, type_steps, raw_steps, missing, component_steps, length_note}
use Rattle.spot.specs.Shown.{shown}
use Rattle.spot.specs.Shown.{Spot}

-- a needed field is missing: its slot is empty
unfoldable pub lacks : ℕ → List ℕ → Bool
lacks layout p = cond (eqb (get_or p 2 0) 0) true (cond (eqb (get_or p 3 0) 0) true (lacks_dtype layout (get_or p 0 0)))

-- where the bytes lie
unfoldable pub blob_steps : ℕ → Node Ends → ℕ → ℕ → List (Step Ends)
blob_steps start offset o l = do
  ALIGN at note_of offset unless eqb (o % alignment) 0
  BOUNDS at note_of offset unless (leb alignment o && leb (o + l) start)

unfoldable pub extra_steps : ℕ → Fields → ℕ → ℕ → List (Step Ends)
extra_steps start f o l = do
  present f.unpacked >>= number_steps
  f.encoding >>= raw_steps
  present f.digest >>= text_steps
  blob_steps start f.offset o l

unfoldable pub extent_steps : ℕ → Fields → List (Step Ends)
extent_steps start f = do
  number_steps f.offset
  o ← given (a_number f.offset)
  number_steps f.length
  l ← given (a_number f.length)
  extra_steps start f o l

-- of the component t
unfoldable pub value_steps : Layout → Option ℕ → ℕ → Node Ends → Fields → List (Step Ends)
value_steps L above start t f = do
  f.dtype >>= dtype_steps L
  own ← given (optional (a_dtype L) f.dtype)
  missing t (or_else own above)
  d ← or_else own above
  present f.type >>= type_steps d
  extent_steps start f

-- ---------------------------------------------------------------- what is answered

-- the first place that there is
unfoldable pub either_of : ℕ → ℕ → ℕ
either_of left whole = cond (eqb left 0) whole left

-- the offset has so many bytes left
abbrev pub BlobIs : ℕ → ℕ → ℕ → ℕ → Spot → Type 0
BlobIs start o l left r = (offset : Node Ends) → left ≡ length (note_of offset).start → r ≡ shown (first (blob_steps start offset o l))

-- the fields stand at the places p in s
abbrev pub ExtrasAre : List ℕ → ℕ → List ℕ → ℕ → ℕ → Spot → Type 0
ExtrasAre s start p o l r = (d : ℕ) (f : Fields) → Found d s p f → r ≡ shown (first (extra_steps start f o l))

abbrev pub ExtentIs : List ℕ → ℕ → List ℕ → Spot → Type 0
ExtentIs s start p r = (d : ℕ) (f : Fields) → Found d s p f → r ≡ shown (first (extent_steps start f))

-- the component has so many bytes left
abbrev pub ValuesAre : Layout → Option ℕ → List ℕ → ℕ → List ℕ → ℕ → Spot → Type 0
ValuesAre L above s start p whole r = (d : ℕ) (f : Fields) → Found d s p f → (t : Node Ends) → whole ≡ length (note_of t).start → r ≡ shown (first (value_steps L above start t f))

-- for every component that is read at c, under any name: the first check that breaks
abbrev pub ComponentIs : Layout → Option ℕ → List ℕ → ℕ → Spot → Type 0
ComponentIs L above c start r = (t : Node Ends) (q : List ℕ) → Reads 28 c t q → (n : Word Ends) → r ≡ shown (first (component_steps L start above (record { name = n; value = t })))

-- and where its length stands
abbrev pub LengthIs : Layout → List ℕ → ℕ → Type 0
LengthIs L c r = (t : Node Ends) (q : List ℕ) → Reads 28 c t q → (n : Word Ends) → r ≡ length (length_note L (record { name = n; value = t })).start
