-- Bytes of one element, by the logical type of a component that passes.
use Rattle.std.specs.Prelude.{ℕ, List, ◌≡◌}
use Rattle.meaning.specs.Check.{pass}
use Rattle.meaning.specs.Model.{Word, Component}
use Rattle.meaning.specs.Kind.{a_word}
use Rattle.meaning.specs.Types.{ratio_of, width_of, listed, logicals}
use Rattle.meaning.specs.Judge.{part}
use Rattle.types.specs.Known.{unit_number}
use Rattle.formats.specs.Parts.{unit_code}
use Rattle.walk.specs.Reading.{Ends}
use Rattle.walk.specs.Places.{Whatever}
use Rattle.component.specs.Value.{left_word}
use Rattle.table.specs.WordAt.{WordAt}

-- bytes of one element, as `types::unit_of` gives them, over the storage with this code, of the logical type that begins s
abbrev pub TypeUnit : List ℕ → ℕ → ℕ → Type 0
TypeUnit s code r = Whatever s λ d t q. (w : Word Ends) → a_word t ≡ pass w → r ≡ unit_number (ratio_of (listed logicals w.letters)) (width_of code)

-- the same of a component in c, whose type has `left` bytes left, 0 for none
abbrev pub UnitIs : List ℕ → ℕ → ℕ → ℕ → Type 0
UnitIs c code left r = (k : Component Ends) → WordAt c k.type → k.dtype ≡ code → left_word k.type ≡ left → r ≡ unit_code (part k)
