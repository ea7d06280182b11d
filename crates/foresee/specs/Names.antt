-- The names that rows give, and what is noted of them.
use Rattle.std.specs.Prelude.{ℕ, min, List, Bool, true, false, ◌≡◌, length, take}
use Rattle.meaning.specs.Columns.{name_column}
use Rattle.meaning.specs.Text.{all, utf8}
use Rattle.meaning.specs.Read.{bytes_at}
use Rattle.meaning.specs.Asked.{each_row, span_at}
use Rattle.names.specs.Names.{name, listed}

-- an object's row and a component's begin with the place and length of its name
unfoldable pub names_of : List ℕ → ℕ → ℕ → List ℕ → List (List ℕ)
names_of buffer width n rows = each_row (λ row. bytes_at buffer (span_at row name_column)) width n rows

-- these names are UTF-8, and the first of them stand in two arrays, as many as there is room for
pub record Noted (buffer : List ℕ) (names : List (List ℕ)) (left size : List ℕ) : Type 0 where
  pub texts : all utf8 names ≡ true
  pub same-room : length size ≡ length left
  pub listed-are : listed (name buffer left size) 0 (min (length names) (length left)) ≡ take (length left) names

-- unless one of them isn't UTF-8
pub record NotedOr (buffer : List ℕ) (names : List (List ℕ)) (left size : List ℕ) (r : Bool) : Type 0 where
  pub well : r ≡ true → Noted buffer names left size
  pub odd : r ≡ false → all utf8 names ≡ false
