-- The sums of objects whose rows are in the window one after the other.
use Rattle.std.specs.Prelude.{ℕ, ◌+◌, ◌*◌, ◌≤◌, List, [], ◌++◌, map, ◌≡◌, length}
use Rattle.std.proofs.lemmas.List.Edits.{sets}
use Rattle.meaning.specs.Limit.{rank_limit, component_limit, end_limit}
use Rattle.meaning.specs.Tree.{Node, Pair}
use Rattle.meaning.specs.Check.{pass}
use Rattle.meaning.specs.Read.{Span}
use Rattle.meaning.specs.Model.{Object}
use Rattle.meaning.specs.Notes.{map_object}
use Rattle.meaning.specs.Judge.{objects_of}
use Rattle.meaning.specs.Rows.{object_row, rows_of}
use Rattle.meaning.specs.Layouts.{layout_of}
use Rattle.meaning.specs.Every.{Every}
use Rattle.walk.specs.Reading.{Ends, Reads}
use Rattle.walk.specs.Places.{AllPassed}
use Rattle.rows.specs.Turns.{reached}
use Rattle.sizes.specs.Size.{capped, capped_end}
use Rattle.table.specs.Spans.{span_of}
use Rattle.table.specs.Entered.{Entered}
use Rattle.table.specs.Objects.{entry}
use Rattle.window.specs.Sums.{blobs_in, all_blobs, entry_size, entry_sizes, name_pairs}

-- whose rows the window holds
pub record InWindow {P : Type 0} (o : Object P) : Type 0 where
  pub rank : length o.shape ≤ rank_limit
  pub count : length o.components ≤ component_limit

-- one object's rows begin t
pub record Holds (t : List ℕ) (o : Object Span) : Type 0 where
  pub rest : List ℕ
  pub is : t ≡ object_row o ++ (rows_of 0 o.components ++ rest)

-- from the place p and the bytes n to the place q and the bytes k
pub record AddedOne (p n q k : ℕ) (o : Object Span) : Type 0 where
  pub ends : q ≡ capped_end (reached [] p (blobs_in o))
  pub adds : q ≤ end_limit → k ≡ capped (n + entry_size p o)

abbrev pub Added : List ℕ → ℕ → ℕ → ℕ → ℕ → Type 0
Added t p n q k = (o : Object Span) → Holds t o → InWindow o → AddedOne p n q k o

pub record Sum (p n : ℕ) (os : List (Object Span)) (q k : ℕ) : Type 0 where
  pub ends : q ≡ capped_end (reached [] p (all_blobs os))
  pub adds : q ≤ end_limit → k ≡ capped (n + entry_sizes p os)

abbrev pub spans : ℕ → List (Object Ends) → List (Object Span)
spans end os = map (map_object (span_of end)) os

-- the sums of these objects; their names stand from `from` on
pub record SumOf (end p n from : ℕ) (before : List ℕ) (q k next : ℕ) (after : List ℕ) (os : List (Object Ends)) : Type 0 where
  pub sum : Sum p n (spans end os) q k
  pub names : from + 2 * length os ≤ length before → (next ≡ from + 2 * length os) × (after ≡ sets before from (name_pairs (spans end os)))

-- of the pairs `done`
abbrev pub Summed : ℕ → ℕ → ℕ → ℕ → ℕ → ℕ → List ℕ → ℕ → ℕ → ℕ → List ℕ → List (Pair Ends) → Type 0
Summed layout start end p n from before q k next after done =
    (os : List (Object Ends)) → Entered (entry layout start) done os → Every InWindow os → SumOf end p n from before q k next after os

-- of all pairs that are due at s
pub record AllSummed (layout start end mode count p n from : ℕ) (s before : List ℕ) (q k : ℕ) (after : List ℕ) : Type 0 where
  pub next : ℕ
  pub are : AllPassed 30 mode count s (Summed layout start end p n from before q k next after)

-- of every list of objects that is read at s
abbrev pub Measured : ℕ → ℕ → ℕ → ℕ → ℕ → ℕ → List ℕ → List ℕ → ℕ → ℕ → List ℕ → Type 0
Measured layout start end p n from s before q k after =
    (t : Node Ends) (r : List ℕ) → Reads 31 s t r → (os : List (Object Ends)) → objects_of (layout_of layout) start t ≡ pass os → Every InWindow os
    → Sum p n (spans end os) q k × (from + 2 * length os ≤ length before → after ≡ sets before from (name_pairs (spans end os)))
