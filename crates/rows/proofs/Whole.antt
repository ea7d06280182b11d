-- All rows together, test by test.
use Prim.Native.Nat.{ℕ, ◌+◌, ◌-◌, ◌*◌, ◌≤◌}
use mathlib.Core.List.{List}
use mathlib.Core.Bool.{Bool, true, ◌&&◌}
use mathlib.Core.Path.{◌≡◌, sym, ap}
use lib.ListN.{length, take, drop}
use borrow.Author.Rules.{part_to_end}
use lib.Dec.{leb}
use borrow.Author.Tests.{leb-true}
use Rattle.meaning.specs.Columns.{object_width, component_width}
use Rattle.meaning.specs.Text.{same, all}
use Rattle.meaning.specs.Read.{Span}
use Rattle.meaning.specs.Asked.{AskedObject, AskedComponent, each_row, asked_object, asked_component, asked}
use Rattle.meaning.specs.Sound.{owners, attributes_sound, object_sound, component_sound, asked_sound, rows_sound}
use Rattle.meaning.proofs.Tests.{both_left, both_right}
use Rattle.rows.specs.Placed.{components_at}
use Rattle.rows.specs.Owner.{owners_in}

module _ (buffer rows : List ℕ) (objects components : ℕ) (attributes : Span) where
  abbrev Os : List AskedObject
  Os = each_row asked_object object_width objects rows

  abbrev Cs : List AskedComponent
  Cs = components_at components (object_width * objects) rows

  abbrev verdict : Bool
  verdict = rows_sound buffer rows objects components attributes

  -- components are lent from their first row on
  abbrev lent : List AskedComponent
  lent = each_row asked_component component_width components (take (length rows - object_width * objects) (drop (object_width * objects) rows))

  lent_is : lent ≡ Cs
  lent_is = ap (each_row asked_component component_width components) (part_to_end rows (object_width * objects))

  -- of rows that there are, all that is asked
  pub asked-of-held : leb (object_width * objects + component_width * components) (length rows) ≡ true
      → verdict ≡ same (owners 0 Os) (owners_in lent) && attributes_sound buffer 31 attributes && all (object_sound buffer) Os && all (component_sound buffer) lent
  unfolding rows_sound asked_sound asked
  asked-of-held held =
      rw held (ap (λ (cs : List AskedComponent). same (owners 0 Os) (owners_in cs) && attributes_sound buffer 31 attributes && all (object_sound buffer) Os && all (component_sound buffer) cs) (sym lent_is))

  -- what sound rows give
  module _ (sound : rows_sound buffer rows objects components attributes ≡ true) where
    pub sound-lies : object_width * objects + component_width * components ≤ length rows
    unfolding rows_sound
    sound-lies =
        leb-true (object_width * objects + component_width * components) (length rows) (both_left _ (asked_sound buffer (asked rows objects components attributes)) sound)

    judged : same (owners 0 Os) (owners_in Cs) && attributes_sound buffer 31 attributes && all (object_sound buffer) Os && all (component_sound buffer) Cs ≡ true
    unfolding rows_sound asked_sound asked
    judged = both_right (leb (object_width * objects + component_width * components) (length rows)) _ sound

    before-components : same (owners 0 Os) (owners_in Cs) && attributes_sound buffer 31 attributes && all (object_sound buffer) Os ≡ true
    before-components = both_left _ (all (component_sound buffer) Cs) judged

    before-objects : same (owners 0 Os) (owners_in Cs) && attributes_sound buffer 31 attributes ≡ true
    before-objects = both_left _ (all (object_sound buffer) Os) before-components

    pub sound-order : same (owners 0 Os) (owners_in Cs) ≡ true
    sound-order = both_left _ (attributes_sound buffer 31 attributes) before-objects

    pub sound-attributes : attributes_sound buffer 31 attributes ≡ true
    sound-attributes = both_right (same (owners 0 Os) (owners_in Cs)) _ before-objects

    pub sound-objects : all (object_sound buffer) Os ≡ true
    sound-objects = both_right (same (owners 0 Os) (owners_in Cs) && attributes_sound buffer 31 attributes) _ before-components

    pub sound-components : all (component_sound buffer) Cs ≡ true
    sound-components = both_right (same (owners 0 Os) (owners_in Cs) && attributes_sound buffer 31 attributes && all (object_sound buffer) Os) _ judged
