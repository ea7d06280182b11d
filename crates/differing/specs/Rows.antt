-- A component and an object by the place of its row.
use Rattle.std.specs.Prelude.{ℕ, ◌+◌, ◌≤◌, List, length, take, drop, get_or}
use Rattle.meaning.specs.Columns.{object_width, rank_column, shape_column, format_column, format_length_column}
use Rattle.meaning.specs.Limit.{rank_limit}
use Rattle.meaning.specs.Asked.{asked_component}
use Rattle.meaning.specs.Described.{DescribedComponent, described_component}

unfoldable pub part_at : List ℕ → List ℕ → ℕ → DescribedComponent
part_at file table row = described_component file (asked_component (drop row table))

unfoldable pub shape_at : List ℕ → ℕ → List ℕ
shape_at table row = take (get_or table (row + rank_column) 0) (drop (row + shape_column) table)

unfoldable pub format_at : List ℕ → List ℕ → ℕ → List ℕ
format_at file table row = take (get_or table (row + format_length_column) 0) (drop (get_or table (row + format_column) 0) file)

-- an object's row lies in the table, and its rank is within the limit
pub record Ranked (table : List ℕ) (row : ℕ) : Type 0 where
  pub lies : row + object_width ≤ length table
  pub rank : get_or table (row + rank_column) 0 ≤ rank_limit
