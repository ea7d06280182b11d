-- Document 01, "The table and the view": one component's part of the file, asked with any table, any counts and any index. Anything else is INDEX.
use Rattle.std.specs.Prelude.{ℕ, ◌+◌, ◌*◌, List, [], ◌&&◌, length, get_or, leb, ltb}
use Rattle.meaning.specs.Check.{Check, pass, refuse, ◌>>=◌, ◌>>◌, ◌unless◌}
use Rattle.meaning.specs.Refusal.{INDEX}
use Rattle.meaning.specs.Read.{Span, bytes_at}
use Rattle.meaning.specs.Columns.{object_width, component_width, offset_column, length_column}

-- the row lies within the count and the table, and its range inside the file
unfoldable pub viewed : List ℕ → List ℕ → ℕ → ℕ → ℕ → Check Span
viewed file table objects components index = do
  let row = object_width * objects + component_width * index
  INDEX unless (ltb index components && leb (row + component_width) (length table))
  let s : Span = record { place = get_or table (row + offset_column) 0; size = get_or table (row + length_column) 0 }
  INDEX unless leb (s.place + s.size) (length file)
  pass s

unfoldable pub part_at : List ℕ → Check Span → List ℕ
part_at file (refuse n o c) = []
part_at file (pass s) = bytes_at file s

-- empty for INDEX
unfoldable pub view : List ℕ → List ℕ → ℕ → ℕ → ℕ → List ℕ
view file table objects components index = part_at file (viewed file table objects components index)
