-- Rows that can be laid: what a row points at lies in the buffer, each of its numbers in the rows.
use Rattle.std.specs.Prelude.{ℕ, ◌+◌, ◌*◌, ◌≤◌, ◌<◌, List, length, drop, get_or}
use Rattle.meaning.specs.Columns.{object_width, component_width, rank_column, format_column, format_length_column, attributes_column, attributes_length_column, dtype_column, type_column, type_length_column, offset_column, length_column, digest_column, digest_length_column}
use Rattle.meaning.specs.Asked.{each_row, asked_object}
use Rattle.rows.specs.Turns.{begun, turn_limit, counted}
use Rattle.layout.specs.Pieces.{reached_past}

pub record Within (buffer : List ℕ) (place size : ℕ) : Type 0 where
  pub inside : place + size ≤ length buffer

-- room for a blob over the front of xs, which is laid up to `past`
pub record BlobRoom (xs : List ℕ) (past start size : ℕ) : Type 0 where
  pub front : past ≤ length xs
  pub blob : start + size ≤ length xs

-- the bytes bs fit over the front of xs, which is laid up to `at`
pub record FrontRoom (bs : List ℕ) (at : ℕ) (xs : List ℕ) : Type 0 where
  pub front : at ≤ length xs
  pub fits : length bs ≤ length xs

pub record ComponentRow (buffer row : List ℕ) : Type 0 where
  pub long : component_width ≤ length row
  pub name : Within buffer (get_or row 0 0) (get_or row 1 0)
  pub code : get_or row dtype_column 0 < 13
  pub type : Within buffer (get_or row type_column 0) (get_or row type_length_column 0)
  pub blob : Within buffer (get_or row offset_column 0) (get_or row length_column 0)
  pub digest : Within buffer (get_or row digest_column 0) (get_or row digest_length_column 0)

pub record ObjectRow (buffer row : List ℕ) : Type 0 where
  pub long : object_width ≤ length row
  pub name : Within buffer (get_or row 0 0) (get_or row 1 0)
  pub rank : get_or row rank_column 0 ≤ 8
  pub format : Within buffer (get_or row format_column 0) (get_or row format_length_column 0)
  pub attributes : Within buffer (get_or row attributes_column 0) (get_or row attributes_length_column 0)

-- n components, the first at this place, whose turns are in time where this one is reached
pub record ComponentRows (buffer plan rows : List ℕ) (n row turn : ℕ) : Type 0 where
  pub each : (j : ℕ) → j < n → ComponentRow buffer (drop (row + component_width * j) rows)
  pub lie : row + component_width * n ≤ length rows
  pub low : reached_past plan rows n row turn ≤ turn_limit plan

-- n objects, the first at the place `row`, and their components from the place `from` on
pub record ObjectRows (buffer plan rows : List ℕ) (n row from turn : ℕ) : Type 0 where
  pub each : (i : ℕ) → i < n → ObjectRow buffer (drop (row + object_width * i) rows)
  pub components : ComponentRows buffer plan rows (counted (each_row asked_object object_width n (drop row rows))) from turn

-- all rows, objects first, and the root's attributes
pub record WholeRows (buffer plan rows : List ℕ) (objects components place size : ℕ) : Type 0 where
  pub attributes : Within buffer place size
  pub each : ObjectRows buffer plan rows objects 0 (object_width * objects) (begun plan)
  pub blobs : ComponentRows buffer plan rows components (object_width * objects) (begun plan)
