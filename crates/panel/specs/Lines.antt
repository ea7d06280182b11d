-- Document 01, "The box's job": the listing, from a file and any table with any counts. What the table or the file does not hold is INDEX.
use Rattle.std.specs.Prelude.{ℕ, zero, suc, ◌+◌, ◌*◌, List, [], ◌∷◌, ◌++◌, Bool, true, ◌&&◌, length, take, drop, get_or, eqb, leb, ltb}
use Rattle.meaning.specs.Columns.{object_width, component_width, format_column, count_column, dtype_column, offset_column, length_column}
use Rattle.meaning.specs.Check.{Check, pass, ◌>>◌, ◌unless◌}
use Rattle.meaning.specs.Refusal.{INDEX}
use Rattle.meaning.specs.Text.{ascii}
use Rattle.meaning.specs.Types.{storage_of}
use Rattle.meaning.specs.Listing.{line, shown_text, decimal}

-- how many components an object has
abbrev pub count_at : List ℕ → ℕ → ℕ
count_at table row = get_or table (row + count_column) 0

-- and n objects, the first at this row
unfoldable pub counted : List ℕ → ℕ → ℕ → ℕ
counted table zero row = 0
counted table (suc n) row = count_at table row + counted table n (row + object_width)

module _ (file table : List ℕ) where
  -- the part of the file whose place and length stand in the table from column i on
  unfoldable pub text_at : ℕ → List ℕ
  text_at i = take (get_or table (i + 1) 0) (drop (get_or table i 0) file)

  unfoldable pub range_inside : ℕ → Bool
  range_inside i = leb (get_or table i 0 + get_or table (i + 1) 0) (length file)

  -- a component's row: name, dtype, offset and length
  unfoldable pub component_sound : ℕ → Bool
  component_sound row = range_inside row && ltb (get_or table (row + dtype_column) 0) 13 && range_inside (row + offset_column)

  -- an object's row: name and format
  unfoldable pub object_sound : ℕ → Bool
  object_sound row = range_inside row && range_inside (row + format_column)

  unfoldable pub object_line : ℕ → List ℕ
  object_line row = line (ascii "object") (shown_text (text_at row) ∷ shown_text (text_at (row + format_column)) ∷ [])

-- the words of a component's line, a blank before each but the first
unfoldable pub blob_words : List ℕ → List ℕ → List ℕ → List ℕ → List ℕ
blob_words name storage offset size = ascii "blob" ++ ((32 ∷ name) ++ ((32 ∷ storage) ++ ((32 ∷ offset) ++ (32 ∷ size))))

-- with more words at the end of a component's line
module _ (file table : List ℕ) (more : ℕ → List (List ℕ)) where
  unfoldable pub blob_line : ℕ → List ℕ
  blob_line row =
      line (ascii "blob")
      (shown_text (text_at file table row) ∷ (storage_of (get_or table (row + dtype_column) 0)).called ∷ decimal (get_or table (row + offset_column) 0) ∷ decimal (get_or table (row + length_column) 0)
      ∷ more row)

  -- n components, the first at this row
  unfoldable pub blob_lines : ℕ → ℕ → List ℕ
  blob_lines zero row = []
  blob_lines (suc n) row = blob_line row ++ blob_lines n (row + component_width)

  -- n objects, the first at this row, and its components from the row `from` on: blobs follow their object
  unfoldable pub object_lines : ℕ → ℕ → ℕ → List ℕ
  object_lines zero row from = []
  object_lines (suc n) row from =
      object_line file table row ++ blob_lines (count_at table row) from ++ object_lines n (row + object_width) (from + component_width * count_at table row)

-- each of n rows of this width, the first at `row`
unfoldable pub every : (ℕ → Bool) → ℕ → ℕ → ℕ → Bool
every sound width zero row = true
every sound width (suc n) row = sound row && every sound width n (row + width)

-- all rows lie in the table, each is sound, and the objects have as many components as there are
unfoldable pub sound : List ℕ → List ℕ → ℕ → ℕ → Bool
sound file table objects components =
    leb (object_width * objects + component_width * components) (length table)
    && every (object_sound file table) object_width objects 0
    && every (component_sound file table) component_width components (object_width * objects)
    && eqb (counted table objects 0) components

unfoldable pub text : List ℕ → List ℕ → (ℕ → List (List ℕ)) → ℕ → ℕ → List ℕ
text file table more objects components =
    line (ascii "objects") (decimal objects ∷ ascii "components" ∷ decimal components ∷ [])
    ++ object_lines file table more objects 0 (object_width * objects)

-- a listing has none
abbrev pub plain : ℕ → List (List ℕ)
plain row = []

unfoldable pub listed : List ℕ → List ℕ → ℕ → ℕ → Check (List ℕ)
listed file table objects components = do
  INDEX unless sound file table objects components
  pass (text file table plain objects components)
