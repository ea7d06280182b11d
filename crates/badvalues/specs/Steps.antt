-- The checks of an object's values up to its attributes, with those that follow, and what is answered of them.
use Rattle.std.specs.Prelude.{ℕ, List, ◌≡◌, length, Ok, Err, Result}
use Rattle.std.proofs.Math.Option.{Option, none, some}
use Rattle.meaning.specs.Tree.{Node}
use Rattle.meaning.specs.Check.{pass, optional}
use Rattle.meaning.specs.Model.{Word}
use Rattle.meaning.specs.Kind.{a_text}
use Rattle.meaning.specs.Layouts.{Layout, layout_of}
use Rattle.meaning.specs.Judge.{a_dtype, shape_of}
use Rattle.walk.specs.Reading.{Ends}
use Rattle.fields.specs.Slots.{Stands, Holds}
use Rattle.component.specs.Value as value
use Rattle.object.specs.Place.{format_code}
use Rattle.object.specs.Verdict.{Fields, Standing}
use Rattle.explained.specs.Step.{Step, first, ◌>>=◌, ◌>>◌, given}
use Rattle.explained.specs.Order.{mapping_steps, text_steps, dtype_steps, shape_steps}
use Rattle.spot.specs.Shown.{looks}
use Rattle.spot.specs.declared.Spot.{Spot}
use Rattle.badvalues.specs.declared.Valued.{Valued}

-- format and attributes
unfoldable pub described_steps : Node Ends → Option (Node Ends) → (Word Ends → List (Step Ends)) → List (Step Ends)
described_steps format attributes next = do
  text_steps format
  f ← given (a_text format)
  attributes >>= mapping_steps
  next f

unfoldable pub value_steps : Layout → Fields → (Option ℕ → List ℕ → Word Ends → List (Step Ends)) → List (Step Ends)
value_steps L f next = do
  f.dtype >>= dtype_steps L
  d ← given (optional (a_dtype L) f.dtype)
  shape_steps f.shape
  s ← given (shape_of f.shape)
  described_steps f.format f.attributes (next d s)

-- a check that breaks, of no component, with this number and so many bytes left where it looks
pub record Alone (n left : ℕ) (f : Option (Step Ends)) : Type 0 where
  pub this : Step Ends
  pub is : f ≡ some this
  pub number : this.number ≡ n
  pub place : length this.place.start ≡ left
  pub owner : this.component_name ≡ none

-- what is known of values that pass, and the checks that are left
pub record Known (L : Layout) (f : Fields) (code format : ℕ) (next : Option ℕ → List ℕ → Word Ends → List (Step Ends)) : Type 0 where
  pub code_is : optional (a_dtype L) f.dtype ≡ pass (value.given code)
  pub shape : List ℕ
  pub shape_is : shape_of f.shape ≡ pass shape
  pub word : Word Ends
  pub word-is : a_text f.format ≡ pass word
  pub format-is : format ≡ format_code word
  pub goes_on : first (value_steps L f next) ≡ first (next (value.given code) shape word)

-- ---------------------------------------------------------------- what is answered

abbrev pub Described : ℕ → Node Ends → (Word Ends → List (Step Ends)) → Option (Step Ends) → Result Valued Spot → Type 0
Described code format next f (Err f1) = Alone (looks f1).number (looks f1).left f
Described code format next f (Ok v) = (v.code ≡ code) × ((w : Word Ends) × (a_text format ≡ pass w) × (v.format ≡ format_code w) × (f ≡ first (next w)))

abbrev pub DescribedIs : List ℕ → ℕ → ℕ → ℕ → Result Valued Spot → Type 0
DescribedIs s a b code r =
    (x : Node Ends) (y : Option (Node Ends)) → Stands 29 s a x → Holds 29 s b y → (next : Word Ends → List (Step Ends)) → Described code x next (first (described_steps x y next)) r

abbrev pub Answered : Layout → Fields → (Option ℕ → List ℕ → Word Ends → List (Step Ends)) → Result Valued Spot → Type 0
Answered L f next (Err f1) = Alone (looks f1).number (looks f1).left (first (value_steps L f next))
Answered L f next (Ok v) = Known L f v.code v.format next

abbrev pub ValuesAre : ℕ → List ℕ → List ℕ → Result Valued Spot → Type 0
ValuesAre layout s p r = (f : Fields) → Standing layout s p f → (next : Option ℕ → List ℕ → Word Ends → List (Step Ends)) → Answered (layout_of layout) f next r
