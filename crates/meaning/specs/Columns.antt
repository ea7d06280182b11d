-- Document 01, "The table and the view", and Request 12 of document 02: a row's numbers by name. Every row's width and columns stand here, and nowhere else in the definitions.
-- A range takes two columns: the named one holds its place, the one after it its length.
use Rattle.std.specs.Prelude.{ℕ, suc}

-- ---------------------------------------------------------------- an object's row

-- how many numbers it takes
abbrev pub object_width : ℕ
object_width = 16

-- of an object's row and of a component's alike
abbrev pub name_column : ℕ
name_column = 0

abbrev pub name_length_column : ℕ
name_length_column = suc name_column

abbrev pub rank_column : ℕ
rank_column = 2

-- the first of eight dimensions
abbrev pub shape_column : ℕ
shape_column = 3

abbrev pub format_column : ℕ
format_column = 11

abbrev pub format_length_column : ℕ
format_length_column = suc format_column

abbrev pub attributes_column : ℕ
attributes_column = 13

abbrev pub attributes_length_column : ℕ
attributes_length_column = suc attributes_column

-- how many components it has
abbrev pub count_column : ℕ
count_column = 15

-- ---------------------------------------------------------------- a component's row

-- how many numbers it takes
abbrev pub component_width : ℕ
component_width = 12

-- the storage code
abbrev pub dtype_column : ℕ
dtype_column = 2

abbrev pub type_column : ℕ
type_column = 3

abbrev pub type_length_column : ℕ
type_length_column = suc type_column

-- where the component's bytes begin
abbrev pub offset_column : ℕ
offset_column = 5

abbrev pub length_column : ℕ
length_column = suc offset_column

abbrev pub digest_column : ℕ
digest_column = 7

abbrev pub digest_length_column : ℕ
digest_length_column = suc digest_column

-- its object's index
abbrev pub owner_column : ℕ
owner_column = 9

-- its map in the manifest, the whole item
abbrev pub entry_column : ℕ
entry_column = 10

abbrev pub entry_length_column : ℕ
entry_length_column = suc entry_column
