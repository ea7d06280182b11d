-- The rows of all objects and of their components, and what the table holds in the end.
use Rattle.std.specs.Prelude.{ℕ, suc, ◌+◌, ◌*◌, ◌≤◌, List, ◌++◌, map, ◌≡◌, length, drop}
use Rattle.std.proofs.lemmas.List.Edits.{sets}
use Rattle.meaning.specs.Columns.{object_width, component_width}
use Rattle.meaning.specs.Tree.{Node, Pair}
use Rattle.meaning.specs.Check.{Check, pass, in_object}
use Rattle.meaning.specs.Model.{Word, Named, Object, Model}
use Rattle.meaning.specs.Notes.{map_object, map_model}
use Rattle.meaning.specs.Field.{name_of}
use Rattle.meaning.specs.Judge.{object, objects_of}
use Rattle.meaning.specs.Rows.{object_rows, component_rows, component_count, rows, room_for}
use Rattle.meaning.specs.Layouts.{layout_of}
use Rattle.walk.specs.Reading.{Ends, Reads}
use Rattle.walk.specs.Places.{AllPassed}
use Rattle.table.specs.Spans.{span_of}
use Rattle.table.specs.Entered.{Entered}
use Rattle.table.specs.Rows.{rows_in}
use Rattle.table.specs.Object.{object_in}

-- ---------------------------------------------------------------- one object

-- the rows of every object that passes, whose key begins s and whose value begins c, where there is room: its own from i on and its components' from `from` on
abbrev pub WholePut : ℕ → List ℕ → List ℕ → ℕ → ℕ → ℕ → ℕ → ℕ → List ℕ → List ℕ → Type 0
WholePut layout s c start end owner i from before after =
    (p : Pair Ends) (d : ℕ) (q r : List ℕ) → Reads (suc d) s p.key q → Reads 30 c p.value r → (n : Named Ends) → name_of p ≡ pass n → (o : Object Ends) → object (layout_of layout) start n ≡ pass o
    → i + object_width ≤ from → from + component_width * length o.components ≤ length before → after ≡ sets (sets before i (object_in end o)) from (rows_in end owner o.components)

-- where the components' rows of the next object begin, if those of every object that is read at c and passes begin at `next`
abbrev pub Onward : ℕ → ℕ → List ℕ → ℕ → ℕ → ℕ → Type 0
Onward layout start c next room next' =
    (t : Node Ends) (q : List ℕ) → Reads 30 c t q → (w : Word Ends) (o : Object Ends) → object (layout_of layout) start (record { name = w; value = t }) ≡ pass o
    → next + component_width * length o.components ≤ room → next' ≡ next + component_width * length o.components

-- ---------------------------------------------------------------- all objects

abbrev pub entry : ℕ → ℕ → ℕ → Named Ends → Check (Object Ends)
entry layout start i n = in_object i (object (layout_of layout) start n)

abbrev pub objects_in : ℕ → List (Object Ends) → List ℕ
objects_in end os = object_rows (map (map_object (span_of end)) os)

abbrev pub components_in : ℕ → List (Object Ends) → List ℕ
components_in end os = component_rows 0 (map (map_object (span_of end)) os)

-- the rows of these objects
pub record Laid (end from : ℕ) (before : List ℕ) (row next : ℕ) (after : List ℕ) (os : List (Object Ends)) : Type 0 where
  pub row_is : row ≡ object_width * length os
  pub next-is : next ≡ from + component_width * component_count os
  pub after_is : after ≡ sets (sets before 0 (objects_in end os)) from (components_in end os)

-- what was put of the pairs `done`
abbrev pub ObjectsLaid : ℕ → ℕ → ℕ → ℕ → List ℕ → ℕ → ℕ → List ℕ → List (Pair Ends) → Type 0
ObjectsLaid layout start end from before row next after done =
    (os : List (Object Ends)) → Entered (entry layout start) done os → object_width * length os ≤ from → from + component_width * component_count os ≤ length before → Laid end from before row next after os

-- of all pairs that are due at s
pub record AllLaid (layout start end from mode count : ℕ) (s before after : List ℕ) : Type 0 where
  pub row : ℕ
  pub next : ℕ
  pub are : AllPassed 30 mode count s (ObjectsLaid layout start end from before row next after)

-- the table of every model m whose objects are read at s, where it has room for them: its rows, and beyond them what it held
abbrev pub Written : ℕ → List ℕ → ℕ → ℕ → ℕ → List ℕ → List ℕ → Type 0
Written layout s start end from before after =
    (t : Node Ends) (q : List ℕ) → Reads 31 s t q → (m : Model Ends) → objects_of (layout_of layout) start t ≡ pass m.objects → from ≡ object_width * length m.objects → room_for m ≤ length before
    → after ≡ rows (map_model (span_of end) m) ++ drop (room_for (map_model (span_of end) m)) before
