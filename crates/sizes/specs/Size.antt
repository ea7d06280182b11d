-- How many bytes the pieces of a manifest take, by the numbers of their rows: no byte of the buffer is looked at.
use Rattle.std.specs.Prelude.{ℕ, suc, ◌+◌, min, List, [], ◌∷◌, cond, ◌&&◌, length, take, drop, ltb, eqb}
use Rattle.meaning.specs.Columns.{object_width, component_width}
use Rattle.meaning.specs.Limit.{manifest_limit, end_limit}
use Rattle.meaning.specs.Read.{Span}
use Rattle.meaning.specs.Types.{storage_of}
use Rattle.meaning.specs.Asked.{AskedObject, AskedComponent, Asked, each_row, asked_object, asked_component}
use Rattle.rows.specs.Turns.{begun, offset_at, stepped, reached, blob_sizes, counted}

-- a size, or one more than the limit where it is over it; so too the last blob's end
abbrev pub capped : ℕ → ℕ
capped n = min n (suc manifest_limit)

abbrev pub capped_end : ℕ → ℕ
capped_end n = min n (suc end_limit)

-- a head with the shortest argument
unfoldable pub head_size : ℕ → ℕ
head_size n = cond (ltb n 24) 1 (cond (ltb n 256) 2 (cond (ltb n 65_536) 3 (cond (ltb n 4_294_967_296) 5 9)))

-- a text of n bytes
unfoldable pub text_size : ℕ → ℕ
text_size n = head_size n + n

-- 0 and 0 means absent
unfoldable pub when_present : Span → ℕ → ℕ
when_present s n = cond (eqb s.place 0 && eqb s.size 0) 0 n

-- under a key that takes so many bytes: a text, and bytes that are copied
unfoldable pub optional_text : ℕ → Span → ℕ
optional_text key s = when_present s (key + text_size s.size)

unfoldable pub optional_copy : ℕ → Span → ℕ
optional_copy key s = when_present s (key + s.size)

-- a component's name, and its map with the blob at an offset; keys take 6, 5, 7, 7 and 7 bytes
unfoldable pub fixed_size : ℕ → ℕ → ℕ → ℕ
fixed_size dtype offset size = 22 + length (storage_of dtype).called + head_size offset + head_size size

unfoldable pub component_size : ℕ → AskedComponent → ℕ
component_size offset c =
    text_size c.name.size + fixed_size c.dtype offset c.blob.size + optional_text 5 c.type + optional_text 7 c.digest

-- components one after the other, where the turn n is reached
unfoldable pub components_size : List ℕ → ℕ → List AskedComponent → ℕ
components_size plan n [] = 0
components_size plan n (c ∷ cs) = component_size (offset_at plan n) c + components_size plan (stepped plan n c.blob.size) cs

unfoldable pub dimensions_size : List ℕ → ℕ
dimensions_size [] = 0
dimensions_size (n ∷ ns) = head_size n + dimensions_size ns

-- an object's name, and its map up to its components; keys take 6, 7, 11 and 11 bytes
unfoldable pub object_size : AskedObject → ℕ
object_size o = text_size o.name.size + 26 + dimensions_size o.shape + text_size o.format.size + optional_copy 11 o.attributes

-- objects one after the other, each with as many components as it counts
unfoldable pub objects_size : List ℕ → ℕ → List AskedObject → List AskedComponent → ℕ
objects_size plan n [] cs = 0
objects_size plan n (o ∷ os) cs =
    object_size o + head_size o.count + components_size plan n (take o.count cs)
    + objects_size plan (reached plan n (blob_sizes (take o.count cs))) os (drop o.count cs)

-- n objects' rows, and the rows of as many components as they count
abbrev pub objects_size_in : List ℕ → List ℕ → List ℕ → ℕ → ℕ
objects_size_in plan os cs n =
    objects_size plan (begun plan) (each_row asked_object object_width n os) (each_row asked_component component_width (counted (each_row asked_object object_width n os)) cs)

-- version takes 14 bytes with its key, the key of objects 8
unfoldable pub manifest_size : List ℕ → Asked → ℕ
manifest_size plan a = 23 + optional_copy 11 a.attributes + head_size (length a.objects) + objects_size plan (begun plan) a.objects a.components
