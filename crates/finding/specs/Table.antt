-- Request 01 of document 02: the finding of one component, asked with any table, any counts and any index. Where a view is INDEX this is too.
use Rattle.std.specs.Prelude.{ℕ, ◌+◌, ◌*◌, ◌%◌, List, Bool, cond, ◌&&◌, get_or, eqb}
use Rattle.meaning.specs.Columns.{object_width, component_width, dtype_column, type_column, type_length_column, offset_column, length_column}
use Rattle.meaning.specs.Check.{Check, pass, refuse}
use Rattle.meaning.specs.Read.{Span, bytes_at}
use Rattle.meaning.specs.Types.{f32}
use Rattle.meaning.specs.View.{viewed}
use Rattle.finding.specs.Finding.{finding, shown}
use Rattle.finding.specs.declared.Shown.{Shown}
use Rattle.finding.specs.declared.table.Found.{Found}

-- the storage is f32, there is no type, and the length is that of whole numbers
unfoldable pub due : List ℕ → ℕ → Bool
due table row =
    eqb (get_or table (row + dtype_column) 0) f32
    && eqb (get_or table (row + type_column) 0) 0
    && eqb (get_or table (row + type_length_column) 0) 0
    && eqb (get_or table (row + length_column) 0 % 4) 0

unfoldable pub undue : Shown
undue = record { finding = 0; smallest = 0; largest = 0; nans = 0 }

-- of the component whose row begins here
unfoldable pub at_row : List ℕ → List ℕ → ℕ → Shown
at_row file table row =
    cond (due table row) (shown (finding (bytes_at file (record { place = get_or table (row + offset_column) 0; size = get_or table (row + length_column) 0 })))) undue

unfoldable pub told : Check Span → Shown → Found
told (pass s) f = record { number = 0; finding = f.finding; smallest = f.smallest; largest = f.largest; nans = f.nans }
told (refuse n o c) f = record { number = n; finding = 0; smallest = 0; largest = 0; nans = 0 }

unfoldable pub found : List ℕ → List ℕ → ℕ → ℕ → ℕ → Found
found file table objects components index =
    told (viewed file table objects components index) (at_row file table (object_width * objects + component_width * index))
