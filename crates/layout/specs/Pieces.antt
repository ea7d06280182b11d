-- The file's bytes by places in the rows: what the n rows from a place on contribute, where a turn is reached.
use Rattle.std.specs.Prelude.{ℕ, zero, suc, ◌+◌, ◌*◌, List, [], ◌++◌, cond, ◌&&◌, length, take, drop, get_or, eqb}
use Rattle.meaning.specs.Columns.{object_width, component_width, rank_column, shape_column, format_column, format_length_column, attributes_column, attributes_length_column, count_column, dtype_column, type_column, type_length_column, offset_column, length_column, digest_column, digest_length_column}
use Rattle.meaning.specs.Text.{ascii}
use Rattle.meaning.specs.Types.{storage_of}
use Rattle.meaning.specs.Manifest.{shortest_head, number_bytes, text_bytes, list_bytes}
use Rattle.meaning.specs.WrittenFile.{little_bytes, over}
use Rattle.meaning.specs.Layouts.{magic}
use Rattle.meaning.specs.Asked.{each_row, asked_component}
use Rattle.rows.specs.Turns.{begun, offset_at, stepped, reached, blob_sizes}

-- 0 where a range is absent, else 1
unfoldable pub presence : ℕ → ℕ → ℕ
presence place size = cond (eqb place 0 && eqb size 0) 0 1

-- the shape of the object whose row these numbers begin with
abbrev pub shape_field : List ℕ → List ℕ
shape_field row = text_bytes (ascii "shape") ++ list_bytes (take (get_or row rank_column 0) (drop shape_column row))

module _ (buffer : List ℕ) where
  -- a range's bytes
  abbrev pub range : ℕ → ℕ → List ℕ
  range place size = take size (drop place buffer)

  -- a field that a range gives, nothing where it is absent
  unfoldable pub optional : List ℕ → (List ℕ → List ℕ) → ℕ → ℕ → List ℕ
  optional key write place size = cond (eqb place 0 && eqb size 0) [] (text_bytes key ++ write (range place size))

  -- ---- of the row that these numbers begin with

  -- a component's fields
  unfoldable pub component_fields : List ℕ → ℕ → List ℕ
  component_fields row offset =
      (text_bytes (ascii "dtype") ++ text_bytes (storage_of (get_or row dtype_column 0)).called)
      ++ (optional (ascii "type") text_bytes (get_or row type_column 0) (get_or row type_length_column 0)
      ++ ((text_bytes (ascii "offset") ++ number_bytes offset)
      ++ ((text_bytes (ascii "length") ++ number_bytes (get_or row length_column 0))
      ++ optional (ascii "digest") text_bytes (get_or row digest_column 0) (get_or row digest_length_column 0))))

  -- its name, and the map of these
  unfoldable pub component_at : List ℕ → ℕ → List ℕ
  component_at row offset =
      text_bytes (range (get_or row 0 0) (get_or row 1 0))
      ++ (shortest_head 5 (3 + presence (get_or row type_column 0) (get_or row type_length_column 0) + presence (get_or row digest_column 0) (get_or row digest_length_column 0)) ++ component_fields row offset)

  -- an object's name and shape
  unfoldable pub object_front : List ℕ → List ℕ
  object_front row =
      text_bytes (range (get_or row 0 0) (get_or row 1 0))
      ++ (shortest_head 5 (3 + presence (get_or row attributes_column 0) (get_or row attributes_length_column 0)) ++ shape_field row)

  -- and the rest, up to its components
  unfoldable pub object_rest : List ℕ → List ℕ
  object_rest row =
      (text_bytes (ascii "format") ++ text_bytes (range (get_or row format_column 0) (get_or row format_length_column 0)))
      ++ (optional (ascii "attributes") (λ bs. bs) (get_or row attributes_column 0) (get_or row attributes_length_column 0)
      ++ (text_bytes (ascii "components") ++ shortest_head 5 (get_or row count_column 0)))

  abbrev pub object_at : List ℕ → List ℕ
  object_at row = object_front row ++ object_rest row

  -- the manifest up to its objects; the root's attributes stand at the place `place` of the buffer
  unfoldable pub root_front : ℕ → ℕ → ℕ → List ℕ
  root_front objects place size =
      shortest_head 5 (2 + presence place size)
      ++ (text_bytes (ascii "version")
      ++ (text_bytes (ascii "1.2.0")
      ++ (optional (ascii "attributes") (λ bs. bs) place size ++ (text_bytes (ascii "objects") ++ shortest_head 5 objects))))

  module _ (plan rows : List ℕ) where
    -- ---- of n components, the first at this place, where this turn is reached

    -- their blobs over what stands
    unfoldable pub blobs_of : List ℕ → ℕ → ℕ → ℕ → List ℕ
    blobs_of file zero row turn = file
    blobs_of file (suc n) row turn =
        blobs_of (over file (offset_at plan turn) (range (get_or rows (row + offset_column) 0) (get_or rows (row + length_column) 0))) n (row + component_width)
        (stepped plan turn (get_or rows (row + length_column) 0))

    unfoldable pub components_of : ℕ → ℕ → ℕ → List ℕ
    components_of zero row turn = []
    components_of (suc n) row turn =
        component_at (drop row rows) (offset_at plan turn) ++ components_of n (row + component_width) (stepped plan turn (get_or rows (row + length_column) 0))

-- the turn after n components
abbrev pub reached_past : List ℕ → List ℕ → ℕ → ℕ → ℕ → ℕ
reached_past plan rows n row turn = reached plan turn (blob_sizes (each_row asked_component component_width n (drop row rows)))

module _ (buffer plan rows : List ℕ) where
  -- of n objects, the first at the place `row`, its components from the place `from` on
  unfoldable pub objects_of : ℕ → ℕ → ℕ → ℕ → List ℕ
  objects_of zero row from turn = []
  objects_of (suc n) row from turn =
      object_front buffer (drop row rows)
      ++ (object_rest buffer (drop row rows)
      ++ (components_of buffer plan rows (get_or rows (row + count_column) 0) from turn
      ++ objects_of n (row + object_width) (from + component_width * get_or rows (row + count_column) 0) (reached_past plan rows (get_or rows (row + count_column) 0) from turn)))

  -- `first` is where the components' rows begin
  unfoldable pub manifest_from : ℕ → ℕ → ℕ → ℕ → List ℕ
  manifest_from objects first place size = root_front buffer objects place size ++ objects_of objects 0 first (begun plan)

  -- header, blobs, manifest, size, footer
  unfoldable pub whole_of : ℕ → ℕ → ℕ → ℕ → List ℕ
  whole_of objects components place size =
      let manifest = manifest_from objects (object_width * objects) place size in
      blobs_of buffer plan rows magic components (object_width * objects) (begun plan) ++ (manifest ++ (little_bytes 8 (length manifest) ++ magic))
