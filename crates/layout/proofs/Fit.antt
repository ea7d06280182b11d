-- Sound rows can be laid. Assumes nothing.
use Prim.Native.Nat.{ℕ, zero, suc, ◌+◌, ◌-◌, ◌*◌, ◌≤◌, ◌<◌}
use native.Mathlib.Omega.{arith}
use mathlib.Core.List.{List, map}
use mathlib.Core.Bool.{Bool, true}
use mathlib.Core.Path.{◌≡◌, sym, ap, subst}
use lib.ListN.{length, drop, length-drop}
use borrow.Author.Tests.{leb-true}
use Rattle.meaning.specs.Columns.{object_width, component_width}
use Rattle.meaning.specs.Text.{all}
use Rattle.meaning.specs.Read.{Span}
use Rattle.meaning.specs.Asked.{each_row, asked_object, asked_component, asked}
use Rattle.meaning.specs.Sound.{inside, object_sound, component_sound, rows_sound}
use Rattle.meaning.specs.Described.{blobs, described}
use Rattle.rows.specs.Turns.{begun, turn_limit, reached}
use Rattle.rows.proofs.EachRow.{first_so, others-so}
use Rattle.rows.proofs.Whole.{sound-lies, sound-attributes, sound-objects, sound-components}
use Rattle.rows.proofs.SoundRow as row_of
use Rattle.rows.proofs.Describes as describes
use Rattle.layout.specs.Rows.{Within, ComponentRow, ObjectRow, ComponentRows, ObjectRows, WholeRows}

-- what each of n rows is asked, row by row
each-so : {A : Type 0} (p : A → Bool) (read : List ℕ → A) (width n at : ℕ) (rows : List ℕ) → all p (each_row read width n (drop at rows)) ≡ true
    → (j : ℕ) → j < n → p (read (drop (at + width * j) rows)) ≡ true
each-so p read width n at rows e zero h =
    let z : at ≡ at + width * 0 = omega arith in
    subst (λ (k : ℕ). p (read (drop k rows)) ≡ true) z (first_so p read width n at rows h e)
each-so p read width n at rows e (suc j) h =
    let z : at + width + width * j ≡ at + width * suc j = omega arith in
    subst (λ (k : ℕ). p (read (drop k rows)) ≡ true) z
    (each-so p read width (n - 1) (at + width) rows (others-so p read width n at rows (omega (arith, h)) e) j (omega (arith, h)))

module _ (buffer : List ℕ) where
  within : (s : Span) → inside buffer s ≡ true → Within buffer s.place s.size
  unfolding inside
  within s e = record { inside = leb-true (s.place + s.size) (length buffer) e }

  component-fits : (row : List ℕ) → component_width ≤ length row → component_sound buffer (asked_component row) ≡ true → ComponentRow buffer row
  unfolding asked_component
  component-fits row l e = record {
    long = l;
    name = within (asked_component row).name (row_of.component-name-inside buffer (asked_component row) e);
    code = row_of.component-known buffer (asked_component row) e;
    type = within (asked_component row).type (row_of.component-type-inside buffer (asked_component row) e);
    blob = within (asked_component row).blob (row_of.component-blob-inside buffer (asked_component row) e);
    digest = within (asked_component row).digest (row_of.component-digest-inside buffer (asked_component row) e);
  }

  object-fits : (row : List ℕ) → object_width ≤ length row → object_sound buffer (asked_object row) ≡ true → ObjectRow buffer row
  unfolding asked_object
  object-fits row l e = record {
    long = l;
    name = within (asked_object row).name (row_of.object-name-inside buffer (asked_object row) e);
    rank = row_of.object-rank-small buffer (asked_object row) e;
    format = within (asked_object row).format (row_of.object-format-inside buffer (asked_object row) e);
    attributes = within (asked_object row).attributes (row_of.attributes-inside buffer 29 (asked_object row).attributes (row_of.object-attributes-sound buffer (asked_object row) e));
  }

module _ (buffer plan rows : List ℕ) (objects components : ℕ) (attributes : Span) (sound : rows_sound buffer rows objects components attributes ≡ true) where
  abbrev lengths : List ℕ
  lengths = map length (blobs (described buffer (asked rows objects components attributes)))

  lies : object_width * objects + component_width * components ≤ length rows
  lies = sound-lies buffer rows objects components attributes sound

  -- where this turn is reached
  module _ {turn : ℕ} (low : reached plan turn lengths ≤ turn_limit plan) where
    pub blob-rows : ComponentRows buffer plan rows components (object_width * objects) turn
    blob-rows = record {
      each = λ j h. component-fits buffer (drop (object_width * objects + component_width * j) rows) (omega (arith, h, lies, length-drop (object_width * objects + component_width * j) rows))
          (each-so (component_sound buffer) asked_component component_width components (object_width * objects) rows (sound-components buffer rows objects components attributes sound) j h);
      lie = lies;
      low = subst (λ (k : ℕ). k ≤ turn_limit plan) (ap (reached plan turn) (describes.blob-lengths buffer rows objects components attributes sound)) low;
    }

    pub object-rows : ObjectRows buffer plan rows objects 0 (object_width * objects) turn
    object-rows = record {
      each = λ i h. object-fits buffer (drop (0 + object_width * i) rows) (omega (arith, h, lies, length-drop (0 + object_width * i) rows))
          (each-so (object_sound buffer) asked_object object_width objects 0 rows (sound-objects buffer rows objects components attributes sound) i h);
      components = subst (λ (m : ℕ). ComponentRows buffer plan rows m (object_width * objects) turn) (sym (describes.rows-counted buffer rows objects components attributes sound)) blob-rows;
    }

  pub attributes-fit : Within buffer attributes.place attributes.size
  attributes-fit = within buffer attributes (row_of.attributes-inside buffer 31 attributes (sound-attributes buffer rows objects components attributes sound))

  pub rows_fit : reached plan (begun plan) lengths ≤ turn_limit plan → WholeRows buffer plan rows objects components attributes.place attributes.size
  rows_fit low = record { attributes = attributes-fit; each = object-rows low; blobs = blob-rows low }
