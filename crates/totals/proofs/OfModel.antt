-- What the objects of a model that stands in its file add up to is what the writer's definitions say of the model's description.
use Prim.Native.Nat.{ℕ, suc, ◌+◌, ◌*◌}
use mathlib.Core.List.{List, [], ◌∷◌, ◌++◌, map}
use mathlib.Core.Bool.{true}
use mathlib.Core.Path.{◌≡◌, refl, sym, ap, ◌∙◌}
use lib.ListN.{length, drop, length-map}
use lib.Seq.{take_at, drop_at}
use Rattle.meaning.specs.Columns.{object_width, component_width}
use Rattle.meaning.specs.Read.{Span}
use Rattle.meaning.specs.Model.{Component, Object, Model}
use Rattle.meaning.specs.Rows.{rows, component_count, attributes_span}
use Rattle.meaning.specs.Asked.{AskedComponent, Asked, asked_component, asked, present_at}
use Rattle.meaning.specs.Sound.{inside, rows_sound}
use Rattle.meaning.specs.Described.{Described, blobs, described, read_object, described_by}
use Rattle.meaning.proofs.Lengths.{map_both, each-row-length}
use Rattle.readback.specs.Spelled.{Spelled, asked_of, asked_of_object, asked_of_all, asked_of_model}
use Rattle.readback.proofs.RowsOfModel.{rows-asked}
use Rattle.readback.proofs.RowsOfReading as rows-laws
use Rattle.rows.specs.Turns.{offset_at, stepped, reached, objects_from, blob_sizes}
use Rattle.rows.proofs.Whole.{sound-attributes, sound-objects, sound-components}
use Rattle.rows.proofs.SoundRow.{attributes-inside}
use Rattle.rows.proofs.Describes as describes
use Rattle.sizes.specs.Size.{component_size, components_size, objects_size}
use Rattle.sizes.proofs.Lengths.{entries_size}
use Rattle.sizes.proofs.Exact.{objects-length, short-rows}
use Rattle.window.specs.Sums.{blobs_in, all_blobs, entry_size, entry_sizes}

-- ---- a model's rows by name

sizes-of : (i : ℕ) (cs : List (Component Span)) → blob_sizes (map (asked_of i) cs) ≡ map (λ c. c.length) cs
unfolding asked_of
sizes-of i [] = refl
sizes-of i (c ∷ cs) = ap (λ (r : List ℕ). c.length ∷ r) (sizes-of i cs)

all-sizes : (i : ℕ) (os : List (Object Span)) → blob_sizes (asked_of_all i os) ≡ all_blobs os
unfolding asked_of_all all_blobs
all-sizes i [] = refl
all-sizes i (o ∷ os) =
    map_both (λ (c : AskedComponent). c.blob.size) (map (asked_of i) o.components) (asked_of_all (suc i) os)
    ∙ ap (λ (r : List ℕ). r ++ blob_sizes (asked_of_all (suc i) os)) (sizes-of i o.components) ∙ ap (λ (r : List ℕ). blobs_in o ++ r) (all-sizes (suc i) os)

-- the owner doesn't count
any-owner : (n i : ℕ) (cs : List (Component Span)) → components_size [] n (map (asked_of i) cs) ≡ components_size [] n (map (asked_of 0) cs)
unfolding components_size component_size asked_of
any-owner n i [] = refl
any-owner n i (c ∷ cs) = ap (λ (r : ℕ). component_size (offset_at [] n) (asked_of i c) + r) (any-owner (stepped [] n c.length) i cs)

all-entries : (n i : ℕ) (os : List (Object Span)) → objects_size [] n (map asked_of_object os) (asked_of_all i os) ≡ entry_sizes n os
unfolding objects_size asked_of_all asked_of_object entry_sizes entry_size
all-entries n i [] = refl
all-entries n i (o ∷ os) =
    let cs : List AskedComponent = map (asked_of i) o.components in
    let z : length cs ≡ length o.components = length-map o.components (asked_of i) in
    rw (take_at cs (asked_of_all (suc i) os) (length o.components) z, drop_at cs (asked_of_all (suc i) os) (length o.components) z, sizes-of i o.components, any-owner n i o.components, all-entries (reached [] n (blobs_in o)) (suc i) os)
    refl

-- ---- a model that stands in its file

module _ (file : List ℕ) (m : Model Span) (spelled : Spelled file m) where
  abbrev d : Described
  d = described_by file m

  abbrev T : List ℕ
  T = rows m ++ []

  abbrev n : ℕ
  n = length m.objects

  abbrev c : ℕ
  c = component_count m.objects

  abbrev A : Span
  A = attributes_span m.attributes

  sound : rows_sound file T n c A ≡ true
  sound = rows-laws.rows-sound file m [] spelled

  asks : asked T n c A ≡ asked_of_model m
  asks = rows-asked m [] (rows-laws.ranks file m.objects spelled.objects)

  says : described file (asked T n c A) ≡ d
  says = rows-laws.rows-described file m [] spelled

  pub lengths-are : map length (blobs d) ≡ all_blobs m.objects
  unfolding asked asked_of_model
  lengths-are =
      ap (λ (d : Described). map length (blobs d)) (sym says) ∙ describes.blob-lengths file T n c A sound
      ∙ ap (λ (a : Asked). blob_sizes a.components) asks ∙ all-sizes 0 m.objects

  pub entries-are : (p : ℕ) → entries_size (objects_from [] p d.objects) ≡ entry_sizes p m.objects
  unfolding asked asked_of_model described
  entries-are p =
      let os = sound-objects file T n c A sound in
      ap (λ (d : Described). entries_size (objects_from [] p d.objects)) (sym says)
      ∙ objects-length [] file p (asked T n c A).objects (asked T n c A).components
      (describes.rows-counted file T n c A sound ∙ sym (each-row-length asked_component component_width c (drop (object_width * n) T))) os (short-rows [] file n T os) (sound-components file T n c A sound)
      ∙ ap (λ (a : Asked). objects_size [] p a.objects a.components) asks ∙ all-entries p 0 m.objects

  pub objects-counted : length d.objects ≡ n
  unfolding described_by
  objects-counted = length-map m.objects (read_object file)

  pub attributes-there : (d.attributes ≡ present_at file A) × (inside file A ≡ true)
  unfolding described asked
  attributes-there = (ap (λ (d : Described). d.attributes) (sym says), attributes-inside file 31 A (sound-attributes file T n c A sound))
