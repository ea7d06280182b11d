-- These sizes are the lengths of what sound rows describe.
use Prim.Native.Nat.{ℕ, zero, suc, ◌+◌, ◌-◌, ◌*◌, ◌≤◌}
use native.Mathlib.Omega.{arith}
use mathlib.Core.List.{List, [], ◌∷◌, map}
use mathlib.Core.Bool.{Bool, true}
use mathlib.Core.Path.{◌≡◌, refl, sym, ap, ◌∙◌}
use lib.ListN.{length, take, drop, get_or, length-map, length-take, length-drop}
use lib.Seq.{length-take-le}
use lib.Dec.{ltb}
use mir.Syntax.{w64}
use mir.Val.{Fits as FitsIn}
use borrow.Author.Rules.{part_to_end}
use borrow.Author.Tests.{ltb-true, le-leb, lt-ltb}
use Rattle.meaning.specs.Columns.{object_width, component_width, rank_column, shape_column}
use Rattle.meaning.specs.Text.{all}
use Rattle.meaning.specs.Read.{Span, bytes_at}
use Rattle.meaning.specs.Asked.{AskedObject, AskedComponent, Asked, each_row, asked_object, asked_component, asked}
use Rattle.meaning.specs.Sound.{object_sound, component_sound, rows_sound}
use Rattle.meaning.specs.Described.{DescribedComponent, Described, described_component, described_object, described_objects, described}
use Rattle.meaning.specs.Manifest.{map_bytes, component_bytes}
use Rattle.meaning.proofs.Tests.{both_left, both_right}
use Rattle.meaning.proofs.Lengths.{part_length, each-row-length}
use Rattle.rows.specs.Placed.{objects_at, components_at}
use Rattle.rows.specs.Turns.{blob_lengths, begun, offset_at, stepped, turn_limit, reached, entries_from, object_from, objects_from, blob_sizes, counted}
use Rattle.rows.proofs.EachRow.{all-taken, all-dropped}
use Rattle.rows.proofs.Turns.{last-is-reached}
use Rattle.rows.proofs.Whole.{sound-lies, sound-attributes, sound-objects, sound-components}
use Rattle.rows.proofs.SoundRow.{component-name-inside, component-type-inside, component-blob-inside, component-digest-inside, attributes-inside, object-name-inside, object-rank-small, object-format-inside, object-attributes-sound}
use Rattle.rows.proofs.Describes.{blobs-as-long, rows-counted, blob-lengths}
use Rattle.sizes.specs.Size.{capped, capped_end, head_size, text_size, optional_copy, fixed_size, component_size, components_size, object_size, objects_size, objects_size_in, manifest_size}
use Rattle.sizes.specs.Measured.{shaped, Fits, Measurable, lengths_of, end_of, manifest_length, ManifestIs}
use Rattle.sizes.proofs.Heads.{head-one, head_small}
use Rattle.sizes.proofs.Lengths.{text-length, number-length, list_length, entries_size, map-length, text-field, copied-field, text-there, called-size, component_bytes_lem, object-bytes, manifest-bytes}

-- ---- components

module _ (plan buffer : List ℕ) where
  component-length : (offset : ℕ) (c : AskedComponent) → component_sound buffer c ≡ true
      → text_size (length (bytes_at buffer c.name)) + length (component_bytes offset (described_component buffer c)) ≡ component_size offset c
  unfolding described_component component_size fixed_size
  component-length offset c e =
      omega (
        arith,
        component_bytes_lem offset (described_component buffer c),
        text-there buffer c.name (component-name-inside buffer c e),
        called-size c.dtype,
        text-field buffer 5 c.type (component-type-inside buffer c e),
        text-field buffer 7 c.digest (component-digest-inside buffer c e),
        number-length offset,
        number-length (length (bytes_at buffer c.blob)),
        ap head_size (part_length buffer c.blob (component-blob-inside buffer c e)),
      )

  components-length : (n : ℕ) (cs : List AskedComponent) → all (component_sound buffer) cs ≡ true
      → entries_size (entries_from plan n (map (described_component buffer) cs)) ≡ components_size plan n cs
  unfolding entries_size entries_from components_size described_component
  components-length n [] e = refl
  components-length n (c ∷ cs) e =
      let first = both_left _ (all (component_sound buffer) cs) e in
      let one = component-length (offset_at plan n) c first in
      let others = components-length (stepped plan n c.blob.size) cs (both_right (component_sound buffer c) _ e) in
      let blob = ap (λ (k : ℕ). entries_size (entries_from plan (stepped plan n k) (map (described_component buffer) cs)))
      (part_length buffer c.blob (component-blob-inside buffer c first)) in
      omega (arith, one, others, blob)

  pub entries-many : (n : ℕ) (ds : List DescribedComponent) → length (entries_from plan n ds) ≡ length ds
  unfolding entries_from
  entries-many n [] = refl
  entries-many n (d ∷ ds) = ap suc (entries-many (stepped plan n (length d.blob)) ds)

  parts-length : (n : ℕ) (cs : List AskedComponent) → all (component_sound buffer) cs ≡ true
      → length (map_bytes (entries_from plan n (map (described_component buffer) cs))) ≡ head_size (length cs) + components_size plan n cs
  parts-length n cs e =
      omega (
        arith,
        map-length (entries_from plan n (map (described_component buffer) cs)),
        ap head_size (entries-many n (map (described_component buffer) cs) ∙ length-map cs (described_component buffer)),
        components-length n cs e,
      )

  -- ---- objects

  -- a shape is no longer than rows have room for
  abbrev pub short : AskedObject → Bool
  short o = ltb (length o.shape) 24

  short_row : (row : List ℕ) → object_sound buffer (asked_object row) ≡ true → short (asked_object row) ≡ true
  unfolding asked_object
  short_row row e =
      lt-ltb (length (take (get_or row rank_column 0) (drop shape_column row))) 24 (omega (arith, object-rank-small buffer (asked_object row) e, length-take (get_or row rank_column 0) (drop shape_column row)))

  pub short-rows : (n : ℕ) (rows : List ℕ) → all (object_sound buffer) (each_row asked_object object_width n rows) ≡ true → all short (each_row asked_object object_width n rows) ≡ true
  unfolding each_row
  short-rows zero rows e = refl
  short-rows (suc n) rows e =
      rw (short_row rows (both_left _ (all (object_sound buffer) (objects_at n object_width rows)) e))
      (short-rows n (drop object_width rows) (both_right (object_sound buffer (asked_object rows)) _ e))

  object-length : (n : ℕ) (o : AskedObject) (cs : List AskedComponent) → object_sound buffer o ≡ true → short o ≡ true → all (component_sound buffer) cs ≡ true
      → text_size (length (bytes_at buffer o.name)) + length (object_from plan n (described_object buffer o cs)) ≡ object_size o + head_size (length cs) + components_size plan n cs
  unfolding described_object object_size
  object-length n o cs e s f =
      omega (
        arith,
        object-bytes plan n (described_object buffer o cs),
        text-there buffer o.name (object-name-inside buffer o e),
        list_length o.shape,
        head-one (length o.shape) (ltb-true (length o.shape) 24 s),
        text-length (bytes_at buffer o.format),
        text-there buffer o.format (object-format-inside buffer o e),
        copied-field buffer 11 o.attributes (attributes-inside buffer 29 o.attributes (object-attributes-sound buffer o e)),
        parts-length n cs f,
      )

  pub objects-length : (n : ℕ) (os : List AskedObject) (cs : List AskedComponent) → counted os ≡ length cs → all (object_sound buffer) os ≡ true → all short os ≡ true
      → all (component_sound buffer) cs ≡ true → entries_size (objects_from plan n (described_objects buffer os cs)) ≡ objects_size plan n os cs
  unfolding entries_size objects_from objects_size described_objects described_object counted
  objects-length n [] cs k e s f = refl
  objects-length n (o ∷ os) cs k e s f =
      let taken = all-taken (component_sound buffer) o.count cs f in
      let one = object-length n o (take o.count cs) (both_left _ (all (object_sound buffer) os) e) (both_left _ (all short os) s) taken in
      let many = ap head_size (length-take-le o.count cs (omega (arith, k))) in
      let others = objects-length (reached plan n (blob_sizes (take o.count cs))) os (drop o.count cs) (omega (arith, k, length-drop o.count cs))
      (both_right (object_sound buffer o) _ e) (both_right (short o) _ s) (all-dropped (component_sound buffer) o.count cs f) in
      let on = ap (λ (ls : List ℕ). entries_size (objects_from plan (reached plan n ls) (described_objects buffer os (drop o.count cs))))
      (blobs-as-long buffer (take o.count cs) taken) in
      omega (arith, one, many, others, on)

  objects-many : (n : ℕ) (os : List AskedObject) (cs : List AskedComponent) → length (objects_from plan n (described_objects buffer os cs)) ≡ length os
  unfolding objects_from described_objects
  objects-many n [] cs = refl
  objects-many n (o ∷ os) cs = ap suc (objects-many (reached plan n (blob_lengths (described_object buffer o (take o.count cs)).components)) os (drop o.count cs))

-- ---- all of it

-- the last blob's end without a plan
module _ (buffer rows : List ℕ) (objects components : ℕ) (attributes : Span) (sound : rows_sound buffer rows objects components attributes ≡ true) where
  end_is : end_of (described buffer (asked rows objects components attributes)) ≡ reached [] 8 (blob_sizes (components_at components (object_width * objects) rows))
  end_is =
      last-is-reached (lengths_of (described buffer (asked rows objects components attributes)))
      ∙ ap (reached [] 8) (blob-lengths buffer rows objects components attributes sound)

  -- `end` was lent the components' rows to the end of all rows
  pub end-so : {r : ℕ} → r ≡ capped_end (reached [] 8 (blob_sizes (each_row asked_component component_width components (take (length rows - object_width * objects) (drop (object_width * objects) rows)))))
      → r ≡ capped_end (end_of (described buffer (asked rows objects components attributes)))
  end-so e =
      e
      ∙ ap (λ (s : List ℕ). capped_end (reached [] 8 (blob_sizes (each_row asked_component component_width components s)))) (part_to_end rows (object_width * objects))
      ∙ ap capped_end (sym end_is)

module _ (plan buffer rows : List ℕ) (objects components : ℕ) (attributes : Span) (sound : rows_sound buffer rows objects components attributes ≡ true) where
  abbrev a : Asked
  a = asked rows objects components attributes

  abbrev d : Described
  d = described buffer a

  abbrev Os : List AskedObject
  Os = each_row asked_object object_width objects rows

  abbrev Cs : List AskedComponent
  Cs = components_at components (object_width * objects) rows

  manifest-is : manifest_length plan d ≡ manifest_size plan a
  unfolding described asked manifest_size
  manifest-is =
      let all-objects = sound-objects buffer rows objects components attributes sound in
      omega (
        arith,
        manifest-bytes plan d,
        copied-field buffer 11 attributes (attributes-inside buffer 31 attributes (sound-attributes buffer rows objects components attributes sound)),
        map-length (objects_from plan (begun plan) (described_objects buffer Os Cs)),
        ap head_size (objects-many plan buffer (begun plan) Os Cs),
        objects-length plan buffer (begun plan) Os Cs (rows-counted buffer rows objects components attributes sound ∙ sym (each-row-length asked_component component_width components (drop (object_width * objects) rows)))
            all-objects (short-rows plan buffer objects rows all-objects) (sound-components buffer rows objects components attributes sound),
      )

  ranked : (os : List AskedObject) → all (object_sound buffer) os ≡ true → all shaped os ≡ true
  unfolding shaped
  ranked [] e = refl
  ranked (o ∷ os) e =
      rw (le-leb o.rank 8 (object-rank-small buffer o (both_left _ (all (object_sound buffer) os) e))) (ranked os (both_right (object_sound buffer o) _ e))

  -- sound rows whose last turn is in time can be measured
  pub measurable : reached plan (begun plan) (blob_sizes Cs) ≤ turn_limit plan → Measurable plan rows objects components
  measurable h = record {
    lie = sound-lies buffer rows objects components attributes sound;
    counts = rows-counted buffer rows objects components attributes sound;
    ranks = ranked Os (sound-objects buffer rows objects components attributes sound);
    ends = h;
  }

-- ---- what is measured

-- the rows as they are lent from the components' on
abbrev after : ℕ → List ℕ → List ℕ
after objects rows = take (length rows - object_width * objects) (drop (object_width * objects) rows)

module _ {plan rows : List ℕ} {objects components : ℕ} (m : Measurable plan rows objects components) where
  pub all_fit : Fits plan rows (after objects rows) objects 0 0 (begun plan)
  all_fit =
      rw (part_to_end rows (object_width * objects)) (record {
        objects = omega (arith, m.lie);
        components = omega (arith, m.lie, m.counts, length-drop (object_width * objects) rows);
        ranks = m.ranks;
        ends = rw m.counts m.ends;
      })

  module _ (attributes : Span) {t h p : ℕ} (copied : t ≡ capped (optional_copy 11 attributes)) (headed : h ≡ head_size objects)
      (held : p ≡ capped (objects_size_in plan rows (after objects rows) objects)) where
    measured : capped (23 + t + h + p) ≡ capped (manifest_size plan (asked rows objects components attributes))
    unfolding manifest_size asked
    measured =
        omega (
          arith,
          copied,
          headed,
          held ∙ ap (λ (cs : List ℕ). capped (objects_size_in plan rows cs objects)) (part_to_end rows (object_width * objects)),
          ap head_size (each-row-length asked_object object_width objects rows),
          ap (λ (k : ℕ). objects_size plan (begun plan) (each_row asked_object object_width objects rows) (components_at k (object_width * objects) rows)) m.counts,
        )

    pub manifest-sum : {r : ℕ} → r ≡ capped (23 + t + h + p) → ManifestIs plan rows objects components attributes r
    manifest-sum e buffer sound = e ∙ measured ∙ ap capped (sym (manifest-is plan buffer rows objects components attributes sound))

module _ (n m : ℕ) {t h : ℕ} (copied : t ≡ capped n) (headed : h ≡ head_size m) where
  pub head-fits : FitsIn w64 (23 + t + h)
  head-fits = record { fits = omega (arith, copied, headed, head_small m) }

  pub all-fits : (k : ℕ) {p : ℕ} → p ≡ capped k → FitsIn w64 (23 + t + h + p)
  all-fits k e = record { fits = omega (arith, copied, headed, e, head_small m) }
