-- Document 01, "The writer": the manifest's bytes: shortest arguments, definite lengths, table order of fields.
use Rattle.std.specs.Prelude.{ℕ, ◌+◌, ◌*◌, ◌^◌, List, [], ◌∷◌, ◌++◌, map, cond, length, take, drop, get_or, ltb}
use Rattle.std.proofs.Math.Option.{Option, none, some}
use Rattle.meaning.specs.Text.{ascii}
use Rattle.meaning.specs.Read.{joined}
use Rattle.meaning.specs.Notes.{map_option}
use Rattle.meaning.specs.Layouts.{root_names, object_names, component_names}
use Rattle.meaning.specs.Types.{storage_of}
use Rattle.meaning.specs.Encoding.{big}
use Rattle.meaning.specs.Described.{DescribedComponent, DescribedObject, Described}

-- a head with these low five bits, and its argument in w bytes
abbrev pub head_of : ℕ → ℕ → ℕ → ℕ → List ℕ
head_of major low w n = (major * 32 + low) ∷ big w n

-- with the shortest argument
unfoldable pub shortest_head : ℕ → ℕ → List ℕ
shortest_head major n =
    cond (ltb n 24) (head_of major n 0 n)
    (cond (ltb n (256 ^ 1)) (head_of major 24 1 n)
    (cond (ltb n (256 ^ 2)) (head_of major 25 2 n)
    (cond (ltb n (256 ^ 4)) (head_of major 26 4 n)
    (head_of major 27 8 n))))

unfoldable pub number_bytes : ℕ → List ℕ
number_bytes n = shortest_head 0 n

unfoldable pub text_bytes : List ℕ → List ℕ
text_bytes s = shortest_head 3 (length s) ++ s

-- of numbers
unfoldable pub list_bytes : List ℕ → List ℕ
list_bytes ns = shortest_head 4 (length ns) ++ joined (map number_bytes ns)

-- a key, and what stands for its value: the bytes of an item, or its tree
pub record Keyed (A : Type 0) : Type 0 where
  pub key : List ℕ
  pub value : A

abbrev pub under : {A : Type 0} → List ℕ → A → Keyed A
under k v = record { key = k; value = v }

-- the fields that have a value, under these names in order
unfoldable pub given : {A : Type 0} → List (List ℕ) → List (Option A) → List (Keyed A)
given [] vs = []
given (n ∷ ns) [] = []
given (n ∷ ns) (none ∷ vs) = given ns vs
given (n ∷ ns) (some v ∷ vs) = under n v ∷ given ns vs

unfoldable pub entry_bytes : Keyed (List ℕ) → List ℕ
entry_bytes e = text_bytes e.key ++ e.value

unfoldable pub map_bytes : List (Keyed (List ℕ)) → List ℕ
map_bytes es = shortest_head 5 (length es) ++ joined (map entry_bytes es)

-- never encoding or uncompressed_length
unfoldable pub component_bytes : ℕ → DescribedComponent → List ℕ
component_bytes offset c =
    map_bytes (given component_names (some (text_bytes (storage_of c.dtype).called) ∷ map_option text_bytes c.type
    ∷ some (number_bytes offset) ∷ some (number_bytes (length c.blob)) ∷ none ∷ none ∷ map_option text_bytes c.digest ∷ []))

-- each component with its offset, the first of those that are left
unfoldable pub component_entries : List ℕ → List DescribedComponent → List (Keyed (List ℕ))
component_entries offsets [] = []
component_entries offsets (c ∷ cs) = under c.name (component_bytes (get_or offsets 0 0) c) ∷ component_entries (drop 1 offsets) cs

unfoldable pub object_bytes : List ℕ → DescribedObject → List ℕ
object_bytes offsets o =
    map_bytes (given object_names (some (list_bytes o.shape) ∷ some (text_bytes o.format) ∷ o.attributes
    ∷ some (map_bytes (component_entries offsets o.components)) ∷ []))

-- each object takes as many offsets as it has components
unfoldable pub object_entries : List ℕ → List DescribedObject → List (Keyed (List ℕ))
object_entries offsets [] = []
object_entries offsets (o ∷ os) = under o.name (object_bytes (take (length o.components) offsets) o) ∷ object_entries (drop (length o.components) offsets) os

unfoldable pub manifest_bytes : Described → List ℕ → List ℕ
manifest_bytes d offsets =
    map_bytes (given root_names (some (text_bytes (ascii "1.2.0")) ∷ d.attributes ∷ some (map_bytes (object_entries offsets d.objects)) ∷ []))
