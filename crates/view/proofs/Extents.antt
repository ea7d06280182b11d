-- A view's two tests, one after the other, and that what they let through lies in the table and in the file.
use Prim.Native.Nat.{ℕ, ◌+◌, ◌*◌, ◌^◌, ◌≤◌, ◌<◌, ◌/◌, ◌-◌}
use native.Mathlib.Omega.{arith}
use mathlib.Core.List.{List}
use mathlib.Core.Bool.{Bool, true, false, cond, ◌&&◌}
use mathlib.Core.Path.{◌≡◌, refl, sym, ap, ◌∙◌, subst}
use lib.ListN.{length, take, drop, get_or}
use lib.Dec.{leb, ltb}
use borrow.Author.Tests.{le-leb, lt-leb, le-ltb, lt-ltb, leb-true}
use mir.Syntax.{w64}
use mir.Val.{Fits}
use Rattle.meaning.specs.Columns.{object_width, component_width, offset_column, length_column}
use Rattle.meaning.specs.Check.{Check, pass, refuse}
use Rattle.meaning.specs.Read.{Span}
use Rattle.meaning.specs.View.{viewed, part_at, view}
use Rattle.view.specs.Extents.{told, found, within}
use Rattle.view.specs.declared.Extent.{Extent}
use Rattle.std.specs.Prelude.{Some, None, Option}

unfoldable nowhere : Extent
nowhere = record { number = 26; offset = 0; length = 0 }

-- ---- a range in a file

module _ (size place n : ℕ) where
  -- what `columns::inside` said of it
  module _ {r : Bool} (said : r ≡ leb (place + n) size) where
    pub lies : r ≡ true → record { number = 0; offset = place; length = n } ≡ within size place n
    unfolding within
    lies e = rw (sym said ∙ e) refl

    pub lies-not : r ≡ false → record { number = 26; offset = 0; length = 0 } ≡ within size place n
    unfolding within
    lies-not e = rw (sym said ∙ e) refl

  by_end : (b : Bool) → leb (place + n) size ≡ b → (within size place n).offset + (within size place n).length ≤ size
  unfolding within
  by_end true e = rw e (leb-true (place + n) size e)
  by_end false e = rw e (omega arith)

  within-fits : (within size place n).offset + (within size place n).length ≤ size
  within-fits = by_end (leb (place + n) size) refl

-- ---- a row in a table

module _ (room objects components index : ℕ) where
  pub not-counted : components ≤ index → None ≡ found room objects components index
  unfolding found
  not-counted a = rw (le-ltb index components a) refl

  pub objects-past : index < components → room / object_width < objects → None ≡ found room objects components index
  unfolding found
  objects-past a b = rw (lt-ltb index components a, lt-leb (object_width * objects + component_width * index + component_width) room (omega (arith, b))) refl

  pub row-past : index < components → objects ≤ room / object_width → (room - object_width * objects) / component_width ≤ index → None ≡ found room objects components index
  unfolding found
  row-past a b d = rw (lt-ltb index components a, lt-leb (object_width * objects + component_width * index + component_width) room (omega (arith, b, d))) refl

  pub row_lies : index < components → objects ≤ room / object_width → index < (room - object_width * objects) / component_width
      → Some (object_width * objects + component_width * index) ≡ found room objects components index
  unfolding found
  row_lies a b d = rw (lt-ltb index components a, le-leb (object_width * objects + component_width * index + component_width) room (omega (arith, b, d))) refl

-- all numbers of a row stand in the table
RowFits : ℕ → Option ℕ → Type 0
RowFits room None = Unit {0}
RowFits room (Some row) = row + component_width ≤ room

found-fits : (room objects components index : ℕ) → RowFits room (found room objects components index)
unfolding found RowFits
found-fits room objects components index = by (ltb index components) (leb (object_width * objects + component_width * index + component_width) room) refl
  where
    by : (b d : Bool) → leb (object_width * objects + component_width * index + component_width) room ≡ d → RowFits room (cond (b && d) (Some (object_width * objects + component_width * index)) None)
    by true true e = leb-true (object_width * objects + component_width * index + component_width) room e
    by true false e = tt
    by false d e = tt

module _ (table : List ℕ) (objects components index : ℕ) (r : Option ℕ) (at : ℕ) (asked : r ≡ found (length table) objects components index) (is : r ≡ Some at) where
  row_fits : at + component_width ≤ length table
  unfolding RowFits
  row_fits = subst (RowFits (length table)) (sym asked ∙ is) (found-fits (length table) objects components index)

  pub offset-inside : at + offset_column < length table
  offset-inside = omega (arith, row_fits)

  pub length-inside : at + length_column < length table
  length-inside = omega (arith, row_fits)

-- a place in a table that is lent, and how many bytes lie before it
pub number_fits : (n : ℕ) (table : List ℕ) → length table < 2 ^ 64 → n < length table → Fits w64 n
number_fits n table lent inside = record { fits = omega arith }

pub bytes_fit : (n : ℕ) (table : List ℕ) → length table * 8 < 2 ^ 63 → n < length table → Fits w64 (n * 8)
bytes_fit n table lent inside = record { fits = omega arith }

-- ---- both

unfoldable extent_at : List ℕ → List ℕ → Option ℕ → Extent
extent_at file table None = nowhere
extent_at file table (Some row) = within (length file) (get_or table (row + offset_column) 0) (get_or table (row + length_column) 0)

module _ (file table : List ℕ) (objects components index : ℕ) where
  row : ℕ
  row = object_width * objects + component_width * index

  place : ℕ
  place = get_or table (row + offset_column) 0

  size : ℕ
  size = get_or table (row + length_column) 0

  by : (b d : Bool) → ltb index components && leb (row + component_width) (length table) ≡ b → leb (place + size) (length file) ≡ d
      → told (viewed file table objects components index) ≡ extent_at file table (found (length table) objects components index)
  unfolding viewed found within extent_at nowhere row place size
  by true true e f = rw (e, f) refl
  by true false e f = rw (e, f) refl
  by false d e f = rw e refl

  told_is : told (viewed file table objects components index) ≡ extent_at file table (found (length table) objects components index)
  told_is = by (ltb index components && leb (row + component_width) (length table)) (leb (place + size) (length file)) refl refl

-- what `range` answers: by whether there is a row
module _ (file table : List ℕ) (objects components index : ℕ) (r : Option ℕ) (asked : r ≡ found (length table) objects components index) where
  pub no-row-told : r ≡ None → record { number = 26; offset = 0; length = 0 } ≡ told (viewed file table objects components index)
  unfolding extent_at nowhere
  no-row-told e = sym (told_is file table objects components index ∙ ap (extent_at file table) (sym asked ∙ e))

  pub row_told : (at : ℕ) → r ≡ Some at → (x : Extent) → x ≡ within (length file) (get_or table (at + offset_column) 0) (get_or table (at + length_column) 0)
      → x ≡ told (viewed file table objects components index)
  unfolding extent_at
  row_told at e x h = h ∙ sym (told_is file table objects components index ∙ ap (extent_at file table) (sym asked ∙ e))

extent-fits : (file table : List ℕ) (r : Option ℕ) → (extent_at file table r).offset + (extent_at file table r).length ≤ length file
unfolding extent_at nowhere
extent-fits file table None = omega arith
extent-fits file table (Some row) = within-fits (length file) (get_or table (row + offset_column) 0) (get_or table (row + length_column) 0)

part_of : (file : List ℕ) (v : Check Span) → take (told v).length (drop (told v).offset file) ≡ part_at file v
unfolding part_at
part_of file (pass s) = refl
part_of file (refuse n o c) = refl

-- what `view` lends
module _ (file table : List ℕ) (objects components index : ℕ) (r : Extent)
    (asked : r ≡ told (viewed file table objects components index)) where
  pub viewed-fits : r.offset + r.length ≤ length file
  viewed-fits =
      subst (λ (x : Extent). x.offset + x.length ≤ length file) (sym (asked ∙ told_is file table objects components index))
      (extent-fits file table (found (length table) objects components index))

  pub viewed-is : take (r.offset + r.length - r.offset) (drop r.offset file) ≡ view file table objects components index
  unfolding view
  viewed-is =
      (let size_is : r.offset + r.length - r.offset ≡ r.length = omega arith in ap (λ (n : ℕ). take n (drop r.offset file)) size_is)
      ∙ ap (λ (x : Extent). take x.length (drop x.offset file)) asked ∙ part_of file (viewed file table objects components index)
