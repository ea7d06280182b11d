-- What sound rows describe: object by object, each with its own components, and all blobs in row order.
use Prim.Native.Nat.{ℕ, suc, ◌+◌, ◌-◌, ◌*◌, ◌≤◌, ◌<◌}
use native.Mathlib.Omega.{arith}
use mathlib.Core.List.{List, [], ◌∷◌, ◌++◌, map}
use mathlib.Core.Bool.{true}
use mathlib.Core.Path.{◌≡◌, refl, sym, ap, ◌∙◌}
use lib.ListN.{length, take, drop, get_or, replicate, length-append, length-drop, length-replicate, length-map}
use lib.Seq.{get_or-drop}
use Rattle.meaning.specs.Columns.{object_width, component_width, count_column}
use Rattle.meaning.specs.Text.{same, all}
use Rattle.meaning.specs.Read.{Span, bytes_at}
use Rattle.meaning.specs.Asked.{AskedObject, AskedComponent, each_row, asked_object, asked_component, asked}
use Rattle.meaning.specs.Sound.{owners, component_sound, rows_sound}
use Rattle.meaning.specs.Described.{DescribedComponent, DescribedObject, blobs_in, blobs, described_component, described_object, described_objects, described}
use Rattle.meaning.proofs.Tests.{both_left, both_right}
use Rattle.meaning.proofs.SameText.{same_length}
use Rattle.meaning.proofs.Lengths.{part_length, each-row-length}
use Rattle.rows.specs.Placed.{objects_at, components_at}
use Rattle.rows.specs.Owner.{owners_in}
use Rattle.rows.specs.Turns.{counted, blob_sizes, blob_lengths}
use Rattle.rows.proofs.EachRow.{no_row, next-row-at, first_rows, later_rows, parts-mapped}
use Rattle.rows.proofs.SoundRow.{component-blob-inside}
use Rattle.rows.proofs.Whole.{sound-order, sound-components}

-- ---- one row after the other

-- objects' rows in os, components' rows in cs; `left` objects from the place p on, `due` components from q on
module _ (buffer os cs : List ℕ) (left due p q : ℕ) where
  abbrev described-from : ℕ → ℕ → ℕ → ℕ → List DescribedObject
  described-from left due p q = described_objects buffer (objects_at left p os) (components_at due q cs)

  abbrev count : ℕ
  count = get_or os (p + count_column) 0

  pub described-none : left ≤ 0 → described-from left due p q ≡ []
  unfolding described_objects
  described-none h = ap (λ (l : List AskedObject). described_objects buffer l (components_at due q cs)) (no_row asked_object object_width left (drop p os) h)

  counts : (asked_object (drop p os)).count ≡ count
  unfolding asked_object
  counts = get_or-drop p os count_column 0

  pub described-next : 0 < left → count ≤ due
      → described-from left due p q
      ≡ described_object buffer (asked_object (drop p os)) (components_at count q cs)
      ∷ described-from (left - 1) (due - count) (p + object_width) (q + component_width * count)
  unfolding described_objects
  described-next h k =
      rw (next-row-at asked_object object_width left p os h, counts, first_rows asked_component component_width due count q cs k, later_rows asked_component component_width due count q cs k) refl

-- ---- how many components are counted

pub counted_none : (os : List ℕ) (left p : ℕ) → left ≤ 0 → counted (objects_at left p os) ≡ 0
unfolding counted
counted_none os left p h = ap counted (no_row asked_object object_width left (drop p os) h)

pub counted_next : (os : List ℕ) (left p : ℕ) → 0 < left
    → counted (objects_at left p os) ≡ get_or os (p + count_column) 0 + counted (objects_at (left - 1) (p + object_width) os)
unfolding counted asked_object
counted_next os left p h =
    ap counted (next-row-at asked_object object_width left p os h)
    ∙ ap (λ (k : ℕ). k + counted (objects_at (left - 1) (p + object_width) os)) (get_or-drop p os count_column 0)

owners-length : (i : ℕ) (os : List AskedObject) → length (owners i os) ≡ counted os
unfolding owners counted
owners-length i [] = refl
owners-length i (o ∷ os) =
    length-append (replicate o.count i) (owners (suc i) os) ∙ ap (λ (n : ℕ). n + length (owners (suc i) os)) (length-replicate {A = ℕ} o.count i)
    ∙ ap (λ (n : ℕ). o.count + n) (owners-length (suc i) os)

pub counts-match : (i : ℕ) (os : List AskedObject) (cs : List AskedComponent) → same (owners i os) (owners_in cs) ≡ true → counted os ≡ length cs
counts-match i os cs e = sym (owners-length i os) ∙ same_length (owners i os) (owners_in cs) e ∙ length-map cs (λ c. c.owner)

-- ---- blobs, in row order

module _ (buffer : List ℕ) where
  abbrev pub blobs_of : List AskedComponent → List (List ℕ)
  blobs_of cs = map (λ c. bytes_at buffer c.blob) cs

  blobs-described : (cs : List AskedComponent) → map (λ (c : DescribedComponent). c.blob) (map (described_component buffer) cs) ≡ blobs_of cs
  unfolding described_component
  blobs-described [] = refl
  blobs-described (c ∷ cs) = ap (λ (l : List (List ℕ)). bytes_at buffer c.blob ∷ l) (blobs-described cs)

  blobs-in : (os : List AskedObject) (cs : List AskedComponent) → counted os ≡ length cs → blobs_in (described_objects buffer os cs) ≡ blobs_of cs
  unfolding counted described_objects described_object blobs_in
  blobs-in [] [] k = refl
  blobs-in [] (c ∷ cs) k = absurd (omega (arith, k))
  blobs-in (o ∷ os) cs k =
      ap (λ (l : List (List ℕ)). l ++ blobs_in (described_objects buffer os (drop o.count cs))) (blobs-described (take o.count cs))
      ∙ ap (λ (l : List (List ℕ)). blobs_of (take o.count cs) ++ l) (blobs-in os (drop o.count cs) (omega (arith, k, length-drop o.count cs)))
      ∙ parts-mapped (λ (c : AskedComponent). bytes_at buffer c.blob) o.count cs

  pub blobs-as-long : (cs : List AskedComponent) → all (component_sound buffer) cs ≡ true → blob_lengths (map (described_component buffer) cs) ≡ blob_sizes cs
  unfolding described_component
  blobs-as-long [] e = refl
  blobs-as-long (c ∷ cs) e =
      rw (part_length buffer c.blob (component-blob-inside buffer c (both_left _ (all (component_sound buffer) cs) e)), blobs-as-long cs (both_right (component_sound buffer c) _ e)) refl

  lengths-of : (cs : List AskedComponent) → map length (blobs_of cs) ≡ blob_lengths (map (described_component buffer) cs)
  unfolding described_component
  lengths-of [] = refl
  lengths-of (c ∷ cs) = ap (λ (ls : List ℕ). length (bytes_at buffer c.blob) ∷ ls) (lengths-of cs)

module _ (buffer rows : List ℕ) (objects components : ℕ) (attributes : Span) (sound : rows_sound buffer rows objects components attributes ≡ true) where
  abbrev Cs : List AskedComponent
  Cs = components_at components (object_width * objects) rows

  pub rows-counted : counted (each_row asked_object object_width objects rows) ≡ components
  rows-counted =
      counts-match 0 (each_row asked_object object_width objects rows) Cs (sound-order buffer rows objects components attributes sound)
      ∙ each-row-length asked_component component_width components (drop (object_width * objects) rows)

  pub blobs-are : blobs (described buffer (asked rows objects components attributes)) ≡ blobs_of buffer Cs
  unfolding described asked
  blobs-are = blobs-in buffer (each_row asked_object object_width objects rows) Cs (rows-counted ∙ sym (each-row-length asked_component component_width components (drop (object_width * objects) rows)))

  pub blob-lengths : map length (blobs (described buffer (asked rows objects components attributes))) ≡ blob_sizes Cs
  blob-lengths = ap (map length) blobs-are ∙ lengths-of buffer Cs ∙ blobs-as-long buffer Cs (sound-components buffer rows objects components attributes sound)
