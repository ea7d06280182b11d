-- What is said of an object's shape and format, in the words of meaning's checks.
use Rattle.std.specs.Prelude.{ℕ, List, ◌≡◌, length, Ok, Err, Result}
use Rattle.std.proofs.Math.Option.{Option, some}
use Rattle.meaning.specs.Tree.{Node}
use Rattle.meaning.specs.Check.{Check, pass, fault, optional}
use Rattle.meaning.specs.Notes.{map_check}
use Rattle.meaning.specs.Limit.{rank_limit}
use Rattle.meaning.specs.Model.{Word}
use Rattle.meaning.specs.Kind.{a_text}
use Rattle.meaning.specs.Judge.{a_dtype, shape_of}
use Rattle.meaning.specs.Rows.{dimensions}
use Rattle.meaning.specs.Layouts.{Layout}
use Rattle.types.specs.Known.{position, format_names}
use Rattle.walk.specs.Reading.{Ends}
use Rattle.walk.specs.Places.{Whatever}
use Rattle.shape.specs.Shape.{ShapeIs}
use Rattle.fields.specs.Slots.{Stands, ItemAt, OptionAt}
use Rattle.component.specs.Value.{given}
use Rattle.table.specs.Object.{eight}
use Rattle.numbers.specs.declared.refusal.Refusal.{Refusal}
use Rattle.numbers.specs.Numbered.{number_of}
use Rattle.numbers.specs.Answered.{answered}

-- dims holds the dimensions of the shape that stands there, and zeros after them; an object's values stand where 29 levels are left
pub record DimensionsAt (s : List ℕ) (left : ℕ) (dims : List ℕ) : Type 0 where
  pub are : (t : Node Ends) → Stands 29 s left t → (d : List ℕ) → shape_of t ≡ pass d → eight dims ≡ dimensions d

-- the answer for that shape
pub record ShapeAt (s : List ℕ) (left : ℕ) (dims : List ℕ) (r : Result ℕ Refusal) : Type 0 where
  pub room : length dims ≡ rank_limit
  pub items : (t : Node Ends) → Stands 29 s left t → ShapeIs dims r (shape_of t)
  pub dimensions : DimensionsAt s left dims

abbrev pub format_code : Word Ends → ℕ
format_code w = position format_names w.letters

abbrev pub FormatIs : List ℕ → Result ℕ Refusal → Type 0
FormatIs s r = Whatever s λ d t q. map_check format_code (a_text t) ≡ answered r

abbrev pub FormatAt : List ℕ → ℕ → Result ℕ Refusal → Type 0
FormatAt s left r = ItemAt s left λ t. map_check format_code (a_text t) ≡ answered r

-- a dtype on the object: the outcome that an answer stands for, where 13 or more is none
abbrev pub tensored : Result ℕ Refusal → Check (Option ℕ)
tensored (Err n) = fault (number_of n)
tensored (Ok c) = pass (given c)

abbrev pub TensorIs : Layout → List ℕ → Result ℕ Refusal → Type 0
TensorIs L s r = Whatever s λ d t q. optional (a_dtype L) (some t) ≡ tensored r

abbrev pub TensorAt : Layout → List ℕ → ℕ → Result ℕ Refusal → Type 0
TensorAt L s left r = OptionAt s left λ o. optional (a_dtype L) o ≡ tensored r
