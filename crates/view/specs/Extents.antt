-- What a view's check says, in the struct that C takes; and its two tests, as the code asks them.
use Rattle.std.specs.Prelude.{ℕ, ◌+◌, ◌*◌, cond, ◌&&◌, leb, ltb, Some, None, Option}
use Rattle.meaning.specs.Columns.{object_width, component_width}
use Rattle.meaning.specs.Check.{Check, pass, refuse}
use Rattle.meaning.specs.Refusal.{INDEX}
use Rattle.meaning.specs.Read.{Span}
use Rattle.view.specs.declared.Extent.{Extent}

abbrev pub told : Check Span → Extent
told (pass s) = record { number = 0; offset = s.place; length = s.size }
told (refuse n o c) = record { number = n; offset = 0; length = 0 }

-- where the row of a component begins, if it lies within the count and the table
unfoldable pub found : ℕ → ℕ → ℕ → ℕ → Option ℕ
found room objects components index =
    let row = object_width * objects + component_width * index in
    cond (ltb index components && leb (row + component_width) room) (Some row) None

-- a range that lies inside the file
unfoldable pub within : ℕ → ℕ → ℕ → Extent
within size place length =
    cond (leb (place + length) size) (record { number = 0; offset = place; length = length }) (record { number = INDEX; offset = 0; length = 0 })
