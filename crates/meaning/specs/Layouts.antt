-- A layout of .zt files as data: document 01's own (1.2.0, document 000) and that of document 001 (1.0). What the two share stands in the judgement; here is all in which they differ.
use Rattle.std.specs.Prelude.{ℕ, List, [], ◌∷◌, map, true, cond, ◌≡◌, refl, length, get_or, eqb}
use Rattle.std.proofs.Math.Option.{Option, none, some}
use Rattle.std.proofs.Common.{sym}
use Rattle.std.proofs.lemmas.List.{length-map}
use Rattle.meaning.specs.Text.{ascii, distinct}
use Rattle.meaning.specs.Types.{storages}

-- a known field by its place in a map's list: the name under which it stands, none where the layout hasn't got it
abbrev pub Slots : Type 0
Slots = List (Option (List ℕ))

abbrev pub slot : ℕ → Slots → Option (List ℕ)
slot i slots = get_or slots i none

abbrev pub somes : {A : Type 0} → List (Option A) → List A
somes [] = []
somes (none ∷ os) = somes os
somes (some a ∷ os) = a ∷ somes os

pub record Layout : Type 0 where
  -- what ends the file, after the manifest's size
  pub footer : List ℕ
  -- how far before the end the size begins, and the bytes of a file besides its blobs and its manifest
  pub size_back : ℕ
  pub least : ℕ
  -- the fields, in checking order: version, attributes, objects
  pub root : Slots
  -- dtype, shape, format, attributes, components
  pub object : Slots
  -- dtype, type, offset, length, uncompressed_length, encoding, digest
  pub component : Slots
  -- the storage types' names: the code of each is its place
  pub dtypes : List (List ℕ)
  -- one for each storage
  pub all_named : length dtypes ≡ length storages
  -- no name twice in a list
  pub root_apart : distinct (somes root) ≡ true
  pub object_apart : distinct (somes object) ≡ true
  pub component_apart : distinct (somes component) ≡ true
  -- as many places in every layout
  pub root_places : length root ≡ 3
  pub object_places : length object ≡ 5
  pub component_places : length component ≡ 7

-- places that the judgement and the dropping name
abbrev pub version_at : ℕ
version_at = 0

abbrev pub objects_at : ℕ
objects_at = 2

abbrev pub dtype_at : ℕ
dtype_at = 0

abbrev pub components_at : ℕ
components_at = 4

-- the first 8 bytes of a file, and the last 8 of one that has a footer
unfoldable pub magic : List ℕ
magic = ascii "ZTEN1000"

-- the known fields of 1.2.0, in checking and writing order
abbrev pub root_names : List (List ℕ)
root_names = ascii "version" ∷ ascii "attributes" ∷ ascii "objects" ∷ []

abbrev pub object_names : List (List ℕ)
object_names = ascii "shape" ∷ ascii "format" ∷ ascii "attributes" ∷ ascii "components" ∷ []

abbrev pub component_names : List (List ℕ)
component_names = ascii "dtype" ∷ ascii "type" ∷ ascii "offset" ∷ ascii "length" ∷ ascii "uncompressed_length" ∷ ascii "encoding" ∷ ascii "digest" ∷ []

pub thirteen : length storages ≡ 13
unfolding storages
thirteen = refl

-- 1.2.0: a footer; the dtype stands on the component
unfoldable pub current : Layout
current = record {
  footer = magic;
  size_back = 16;
  least = 24;
  root = map some root_names;
  object = none ∷ map some object_names;
  component = map some component_names;
  dtypes = map (λ s. s.called) storages;
  all_named = length-map storages (λ s. s.called);
  root_apart = refl;
  object_apart = refl;
  component_apart = refl;
  root_places = refl;
  object_places = refl;
  component_places = refl;
}

-- 1.0: no footer; the dtype stands on the object, which is called a tensor, under its long name
unfoldable pub old : Layout
old = record {
  footer = [];
  size_back = 8;
  least = 16;
  root = some (ascii "version") ∷ some (ascii "attributes") ∷ some (ascii "tensors") ∷ [];
  object = some (ascii "dtype") ∷ some (ascii "shape") ∷ some (ascii "format") ∷ none ∷ some (ascii "components") ∷ [];
  component = none ∷ none ∷ some (ascii "offset") ∷ some (ascii "length") ∷ none ∷ some (ascii "encoding") ∷ some (ascii "digest") ∷ [];
  dtypes =
      ascii "float64" ∷ ascii "float32" ∷ ascii "float16" ∷ ascii "bfloat16" ∷ ascii "int64" ∷ ascii "int32" ∷ ascii "int16" ∷ ascii "int8"
      ∷ ascii "uint64" ∷ ascii "uint32" ∷ ascii "uint16" ∷ ascii "uint8" ∷ ascii "bool" ∷ [];
  all_named = sym thirteen;
  root_apart = refl;
  object_apart = refl;
  component_apart = refl;
  root_places = refl;
  object_places = refl;
  component_places = refl;
}

-- the layout that a caller's number names: 1 is 1.0, every other number is 1.2.0
unfoldable pub layout_of : ℕ → Layout
layout_of n = cond (eqb n 1) old current
