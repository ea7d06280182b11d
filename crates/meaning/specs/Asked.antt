-- Document 01, "The writer": the rows that it is asked with, their numbers by name. Places and offsets point into a second lent buffer.
use Rattle.std.specs.Prelude.{ℕ, zero, suc, ◌*◌, List, [], ◌∷◌, cond, ◌&&◌, take, drop, get_or, eqb}
use Rattle.std.proofs.Math.Option.{Option, none, some}
use Rattle.meaning.specs.Read.{Span, bytes_at}
use Rattle.meaning.specs.Columns.{object_width, component_width, name_column, rank_column, shape_column, format_column, attributes_column, count_column}
use Rattle.meaning.specs.Columns.{dtype_column, type_column, offset_column, digest_column, owner_column}

-- an object's row
pub record AskedObject : Type 0 where
  pub name : Span
  pub rank : ℕ
  pub shape : List ℕ
  pub format : Span
  pub attributes : Span
  pub count : ℕ

-- a component's row
pub record AskedComponent : Type 0 where
  pub name : Span
  pub dtype : ℕ
  pub type : Span
  pub blob : Span
  pub digest : Span
  pub owner : ℕ

pub record Asked : Type 0 where
  pub attributes : Span
  pub objects : List AskedObject
  pub components : List AskedComponent

-- the range whose place stands in this column, its length in the next
abbrev pub span_at : List ℕ → ℕ → Span
span_at row column = record { place = get_or row column 0; size = get_or row (suc column) 0 }

-- of the row that these numbers begin with; unused dimensions aren't looked at
unfoldable pub asked_object : List ℕ → AskedObject
asked_object row = record {
  name = span_at row name_column;
  rank = get_or row rank_column 0;
  shape = take (get_or row rank_column 0) (drop shape_column row);
  format = span_at row format_column;
  attributes = span_at row attributes_column;
  count = get_or row count_column 0;
}

unfoldable pub asked_component : List ℕ → AskedComponent
asked_component row = record {
  name = span_at row name_column;
  dtype = get_or row dtype_column 0;
  type = span_at row type_column;
  blob = span_at row offset_column;
  digest = span_at row digest_column;
  owner = get_or row owner_column 0;
}

-- n rows of a width, one after the other
unfoldable pub each_row : {A : Type 0} → (List ℕ → A) → ℕ → ℕ → List ℕ → List A
each_row read width zero rows = []
each_row read width (suc n) rows = read rows ∷ each_row read width n (drop width rows)

-- all objects first, then all components; numbers beyond aren't looked at
unfoldable pub asked : List ℕ → ℕ → ℕ → Span → Asked
asked rows objects components attributes = record {
  attributes = attributes;
  objects = each_row asked_object object_width objects rows;
  components = each_row asked_component component_width components (drop (object_width * objects) rows);
}

-- 0 and 0 means absent
unfoldable pub present_at : List ℕ → Span → Option (List ℕ)
present_at buffer s = cond (eqb s.place 0 && eqb s.size 0) none (some (bytes_at buffer s))
