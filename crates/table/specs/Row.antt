-- The row of a component, put into the table where its key and its value were met.
use Rattle.std.specs.Prelude.{ℕ, suc, List, [], ◌∷◌, ◌≡◌, Result}
use Rattle.std.proofs.lemmas.List.Edits.{sets}
use Rattle.meaning.specs.Tree.{Pair}
use Rattle.meaning.specs.Check.{pass}
use Rattle.meaning.specs.Read.{Span}
use Rattle.meaning.specs.Model.{Named, Component}
use Rattle.meaning.specs.Notes.{map_component}
use Rattle.meaning.specs.Field.{name_of}
use Rattle.meaning.specs.Judge.{component}
use Rattle.meaning.specs.Rows.{component_row}
use Rattle.meaning.specs.Layouts.{layout_of}
use Rattle.walk.specs.Reading.{Ends, Reads}
use Rattle.component.specs.Value.{given}
use Rattle.component.specs.Verdict.{ComponentIs}
use Rattle.component.specs.declared.Judged.{Judged}
use Rattle.table.specs.Given.{offered, Whichever}
use Rattle.table.specs.Spans.{span_of, SizeIs}
use Rattle.numbers.specs.declared.refusal.Refusal.{Refusal}

-- its twelve numbers
abbrev pub twelve : Span → ℕ → Span → ℕ → ℕ → Span → ℕ → Span → List ℕ
twelve name code type offset size digest owner entry = name.place ∷ name.size ∷ code ∷ type.place ∷ type.size ∷ offset ∷ size ∷ digest.place ∷ digest.size ∷ owner ∷ entry.place ∷ entry.size ∷ []

-- its row in a file whose manifest ends at `end`
abbrev pub row_in : ℕ → ℕ → Component Ends → List ℕ
row_in end owner k = component_row owner (map_component (span_of end) k)

-- the row of every component that passes, whose key begins s and whose value, judged as v with its object's code, begins c and takes `size` bytes
abbrev pub RowPut : ℕ → ℕ → List ℕ → List ℕ → Result Judged Refusal → ℕ → ℕ → ℕ → ℕ → List ℕ → List ℕ → Type 0
RowPut layout format s c v size end owner i before after =
    (code start : ℕ) → ComponentIs (layout_of layout) (given code) c start v → (p : Pair Ends) (d : ℕ) (q r : List ℕ) → Reads (suc d) s p.key q → Reads 28 c p.value r → SizeIs p.value size
    → (n : Named Ends) → name_of p ≡ pass n → Whichever (offered layout format code) λ above.
    (k : Component Ends) → component (layout_of layout) start (above n.name.letters) n ≡ pass k → after ≡ sets before i (row_in end owner k)
