-- The components of a table as ranges, two numbers each: where it begins, and the position past its last.
use Rattle.std.specs.Prelude.{ℕ, zero, suc, ◌+◌, ◌*◌, ◌≤◌, ◌<◌, ◌^◌, List, [], ◌∷◌, ◌≡◌, length, take, get_or}
use Rattle.meaning.specs.Columns.{component_width, offset_column, length_column}
use Rattle.covering.specs.Order.{Begin, End}

-- n components, the first at this row
unfoldable pub ranges : List ℕ → ℕ → ℕ → List ℕ
ranges table row zero = []
ranges table row (suc n) =
    get_or table (row + offset_column) 0 ∷ (get_or table (row + offset_column) 0 + get_or table (row + length_column) 0) ∷ ranges table (row + component_width) n

-- so many rows lie in the table, and none ends past `most`
pub record Rows (table : List ℕ) (first n most : ℕ) : Type 0 where
  pub lie : first + component_width * n ≤ length table
  pub begin : Begin 0 (most + 1) (ranges table first n)
  pub end : End most (ranges table first n)
  pub small : most + 1 < 2 ^ 64

-- they stand at the front
pub record Gathered (before : List ℕ) (first n : ℕ) (after : List ℕ) : Type 0 where
  pub long : length after ≡ length before
  pub front : take (2 * n) after ≡ ranges before first n
