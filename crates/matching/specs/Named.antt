-- The names of n rows of one width, from a place of the table on.
use Rattle.std.specs.Prelude.{ℕ, ◌+◌, ◌*◌, ◌≤◌, List, length, get_or, take, drop}
use Rattle.meaning.specs.Columns.{name_column, name_length_column}

-- of the row that begins there
unfoldable pub name_at : List ℕ → List ℕ → ℕ → List ℕ
name_at file table row = take (get_or table (row + name_length_column) 0) (drop (get_or table (row + name_column) 0) file)

-- of the row of number i
unfoldable pub named : List ℕ → List ℕ → ℕ → ℕ → ℕ → List ℕ
named file table first width i = name_at file table (first + width * i)

-- so many rows lie in the table
pub record Rows (table : List ℕ) (first width n : ℕ) : Type 0 where
  pub wide : 2 ≤ width
  pub lie : first + width * n ≤ length table
