-- The codes that texts name, by their place in a list: fields, storage types, formats, roles. What the public contracts cite.
use Rattle.std.specs.Prelude.{ℕ, zero, suc, ◌+◌, ◌*◌, List, [], ◌∷◌, map, cond}
use Rattle.std.proofs.Math.Option.{Option, none, some}
use Rattle.meaning.specs.Text.{ascii, same}
use Rattle.meaning.specs.Layouts.{Slots, Layout}
use Rattle.meaning.specs.Types.{storages, code_from, logicals}

-- the index of the first name that equals k, or the number of names
unfoldable pub position : List (List ℕ) → List ℕ → ℕ
position [] k = 0
position (n ∷ ns) k = let r = position ns k in cond (same n k) 0 (suc r)

-- the place of the field that k names, or the number of places
unfoldable pub field_at : Slots → List ℕ → ℕ
field_at [] k = 0
field_at (none ∷ ns) k = suc (field_at ns k)
field_at (some n ∷ ns) k = let r = field_at ns k in cond (same n k) 0 (suc r)

-- the place of the name with index i among those that are there
unfoldable pub place_of_name : Slots → ℕ → ℕ
place_of_name [] i = 0
place_of_name (none ∷ ns) i = suc (place_of_name ns i)
place_of_name (some n ∷ ns) zero = 0
place_of_name (some n ∷ ns) (suc i) = suc (place_of_name ns i)

-- a code, or n where there is none
unfoldable pub code_or : ℕ → Option ℕ → ℕ
code_or n none = n
code_or n (some c) = c

-- bytes of one element, as a number: 256 and the bytes of one number where there is no ratio
unfoldable pub unit_number : Option ℕ → ℕ → ℕ
unit_number none width = 256 + width
unit_number (some ratio) width = ratio * width

abbrev pub storage_names : List (List ℕ)
storage_names = map (λ s. s.called) storages

-- the storage that is named in a layout, 13 for none
unfoldable pub dtype_code : Layout → List ℕ → ℕ
dtype_code L k = code_or 13 (code_from 0 L.dtypes k)

abbrev pub logical_names : List (List ℕ)
logical_names = map (λ l. l.called) logicals

abbrev pub raw_names : List (List ℕ)
raw_names = ascii "raw" ∷ []

unfoldable pub format_names : List (List ℕ)
format_names = ascii "dense" ∷ ascii "sparse_csr" ∷ ascii "sparse_coo" ∷ ascii "quantized_group" ∷ []

unfoldable pub role_names : List (List ℕ)
role_names =
    ascii "data" ∷ ascii "values" ∷ ascii "indices" ∷ ascii "indptr" ∷ ascii "coords" ∷ ascii "packed_weight" ∷ ascii "scales" ∷ ascii "zeros" ∷ []
