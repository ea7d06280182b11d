-- The row of an object, put into the table when its map has been passed over.
use Rattle.std.specs.Prelude.{ℕ, suc, List, [], ◌∷◌, ◌++◌, ◌≡◌, length, get_or}
use Rattle.std.proofs.Math.Option.{some}
use Rattle.std.proofs.lemmas.List.Edits.{sets}
use Rattle.meaning.specs.Tree.{Node}
use Rattle.meaning.specs.Check.{pass}
use Rattle.meaning.specs.Read.{Span}
use Rattle.meaning.specs.Model.{Object}
use Rattle.meaning.specs.Notes.{map_object}
use Rattle.meaning.specs.Kind.{a_word}
use Rattle.meaning.specs.Rows.{object_row, dimensions}
use Rattle.walk.specs.Reading.{Ends, Reads}
use Rattle.component.specs.Value.{left_word}
use Rattle.table.specs.WordAt.{WordAt}
use Rattle.fields.specs.Slots.{Holds}
use Rattle.table.specs.Spans.{span_of}

-- the eight numbers of d
abbrev pub eight : List ℕ → List ℕ
eight d = get_or d 0 0 ∷ get_or d 1 0 ∷ get_or d 2 0 ∷ get_or d 3 0 ∷ get_or d 4 0 ∷ get_or d 5 0 ∷ get_or d 6 0 ∷ get_or d 7 0 ∷ []

-- ---------------------------------------------------------------- the row

-- its sixteen numbers
abbrev pub sixteen : Span → ℕ → List ℕ → Span → Span → ℕ → List ℕ
sixteen name rank d format attributes count = name.place ∷ name.size ∷ rank ∷ d ++ format.place ∷ format.size ∷ attributes.place ∷ attributes.size ∷ count ∷ []

-- its row in a file whose manifest ends at `end`
abbrev pub object_in : ℕ → Object Ends → List ℕ
object_in end o = object_row (map_object (span_of end) o)

-- where an object's format and attributes stand in m: the slots p
pub record Described (m p : List ℕ) (o : Object Ends) : Type 0 where
  pub format-at : WordAt m (some o.format)
  pub format-left : left_word (some o.format) ≡ get_or p 2 0
  pub attributes-held : Holds 29 m (get_or p 3 0) o.attributes

-- the row of every object whose key begins s, whose format and attributes stand there, and whose dimensions are the first `rank` of d
abbrev pub ObjectPut : List ℕ → List ℕ → List ℕ → ℕ → List ℕ → ℕ → ℕ → ℕ → List ℕ → List ℕ → Type 0
ObjectPut s m p rank d count end i before after =
    (l : ℕ) (t : Node Ends) (q : List ℕ) → Reads (suc l) s t q → (o : Object Ends) → a_word t ≡ pass o.name → Described m p o → rank ≡ length o.shape → eight d ≡ dimensions o.shape
    → count ≡ length o.components → after ≡ sets before i (object_in end o)
