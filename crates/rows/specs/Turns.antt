-- The manifest's entries as a writer goes, so that no list of offsets is kept. Its turn is a number: without a plan (the empty one), the place that is reached in the file, and the next
-- blob stands at the next multiple of 64; with a plan, how many blobs have had their offset.
use Rattle.std.specs.Prelude.{ℕ, ◌+◌, List, [], ◌∷◌, map, length, get_or}
use Rattle.std.proofs.Math.Option.{some}
use Rattle.meaning.specs.Limit.{end_limit}
use Rattle.meaning.specs.Layouts.{object_names, magic}
use Rattle.meaning.specs.Asked.{AskedObject, AskedComponent}
use Rattle.meaning.specs.Placement.{aligned}
use Rattle.meaning.specs.Described.{DescribedComponent, DescribedObject}
use Rattle.meaning.specs.Manifest.{Keyed, under, given, text_bytes, list_bytes, map_bytes, component_bytes}

-- the first turn
unfoldable pub begun : List ℕ → ℕ
begun [] = length magic
begun (o ∷ os) = 0

-- where the blob stands whose turn it is
unfoldable pub offset_at : List ℕ → ℕ → ℕ
offset_at [] n = aligned n
offset_at (o ∷ os) n = get_or (o ∷ os) n 0

-- the turn after a blob of this length
unfoldable pub stepped : List ℕ → ℕ → ℕ → ℕ
stepped [] n l = aligned n + l
stepped (o ∷ os) n l = n + 1

-- no turn is greater, so that no sum wraps
unfoldable pub turn_limit : List ℕ → ℕ
turn_limit [] = end_limit
turn_limit (o ∷ os) = 2_305_843_009_213_693_952

module _ (plan : List ℕ) where
  -- the turn after blobs of these lengths
  unfoldable pub reached : ℕ → List ℕ → ℕ
  reached n [] = n
  reached n (l ∷ ls) = reached (stepped plan n l) ls

  -- and where they stand
  unfoldable pub offsets_from : ℕ → List ℕ → List ℕ
  offsets_from n [] = []
  offsets_from n (l ∷ ls) = offset_at plan n ∷ offsets_from (stepped plan n l) ls

abbrev pub blob_lengths : List DescribedComponent → List ℕ
blob_lengths cs = map (λ c. length c.blob) cs

module _ (plan : List ℕ) where
  unfoldable pub entries_from : ℕ → List DescribedComponent → List (Keyed (List ℕ))
  entries_from n [] = []
  entries_from n (c ∷ cs) = under c.name (component_bytes (offset_at plan n) c) ∷ entries_from (stepped plan n (length c.blob)) cs

  unfoldable pub object_from : ℕ → DescribedObject → List ℕ
  object_from n o =
      map_bytes (given object_names (some (list_bytes o.shape) ∷ some (text_bytes o.format) ∷ o.attributes ∷ some (map_bytes (entries_from n o.components)) ∷ []))

  unfoldable pub objects_from : ℕ → List DescribedObject → List (Keyed (List ℕ))
  objects_from n [] = []
  objects_from n (o ∷ os) = under o.name (object_from n o) ∷ objects_from (reached plan n (blob_lengths o.components)) os

-- ---- of rows

-- what components' rows say of their blobs' lengths
abbrev pub blob_sizes : List AskedComponent → List ℕ
blob_sizes cs = map (λ c. c.blob.size) cs

-- how many components objects' rows count
unfoldable pub counted : List AskedObject → ℕ
counted [] = 0
counted (o ∷ os) = o.count + counted os
