-- Rows by their places: n of them from a place on in a list of numbers.
use Rattle.std.specs.Prelude.{ℕ, List, drop}
use Rattle.meaning.specs.Columns.{object_width, component_width}
use Rattle.meaning.specs.Asked.{AskedObject, AskedComponent, each_row, asked_object, asked_component}

abbrev pub objects_at : ℕ → ℕ → List ℕ → List AskedObject
objects_at n p rows = each_row asked_object object_width n (drop p rows)

abbrev pub components_at : ℕ → ℕ → List ℕ → List AskedComponent
components_at n p rows = each_row asked_component component_width n (drop p rows)
