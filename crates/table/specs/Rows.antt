-- The rows of an object's components, put one after the other while their map is passed over.
use Rattle.std.specs.Prelude.{ℕ, ◌+◌, ◌*◌, ◌≤◌, List, map, ◌≡◌, length}
use Rattle.std.proofs.Math.Option.{Option}
use Rattle.std.proofs.lemmas.List.Edits.{sets}
use Rattle.meaning.specs.Columns.{component_width}
use Rattle.meaning.specs.Tree.{Node, Pair}
use Rattle.meaning.specs.Check.{pass}
use Rattle.meaning.specs.Model.{Component}
use Rattle.meaning.specs.Notes.{map_component}
use Rattle.meaning.specs.Judge.{components_of}
use Rattle.meaning.specs.Rows.{rows_of}
use Rattle.meaning.specs.Layouts.{Layout, layout_of}
use Rattle.walk.specs.Reading.{Ends, Reads}
use Rattle.walk.specs.Places.{AllPassed}
use Rattle.table.specs.Given.{Given, Whichever, entry}
use Rattle.table.specs.Spans.{span_of}
use Rattle.table.specs.Entered.{Entered}

abbrev pub rows_in : ℕ → ℕ → List (Component Ends) → List ℕ
rows_in end owner cs = rows_of owner (map (map_component (span_of end)) cs)

-- the rows of these components, from `from` on, in a table that has room for them
pub record Laid (end owner from : ℕ) (before : List ℕ) (next : ℕ) (after : List ℕ) (cs : List (Component Ends)) : Type 0 where
  pub next-is : next ≡ from + component_width * length cs
  pub after_is : after ≡ sets before from (rows_in end owner cs)

-- what was put of the pairs `done`, in an object that gives them this
abbrev pub Rowed : Given → ℕ → ℕ → ℕ → ℕ → List ℕ → ℕ → List ℕ → List (Pair Ends) → Type 0
Rowed g start end owner from before next after done = Whichever g λ above.
    (cs : List (Component Ends)) → Entered (entry (layout_of g.layout) above start) done cs → from + component_width * length cs ≤ length before → Laid end owner from before next after cs

-- of all pairs that are due at s
pub record AllRowed (g : Given) (start end owner from mode count : ℕ) (s before after : List ℕ) : Type 0 where
  pub next : ℕ
  pub are : AllPassed 28 mode count s (Rowed g start end owner from before next after)

-- the table after these components, where it has room for them
abbrev pub Put : ℕ → ℕ → ℕ → List ℕ → List (Component Ends) → List ℕ → Type 0
Put end owner from before cs after = from + component_width * length cs ≤ length before → after ≡ sets before from (rows_in end owner cs)

-- those of the map x, if it passes with the codes that its object gives
abbrev pub Says : Layout → (List ℕ → Option ℕ) → ℕ → ℕ → ℕ → ℕ → List ℕ → Node Ends → List ℕ → Type 0
Says L above start end owner from before x after = (cs : List (Component Ends)) → components_of L start above x ≡ pass cs → Put end owner from before cs after

-- of whatever is read at c, as components of an object that gives them this
abbrev pub RowsPut : Given → List ℕ → ℕ → ℕ → ℕ → ℕ → List ℕ → List ℕ → Type 0
RowsPut g c start end owner from before after =
    (t : Node Ends) (q : List ℕ) → Reads 29 c t q → Whichever g λ above. Says (layout_of g.layout) above start end owner from before t after
