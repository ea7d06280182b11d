-- Small files: a plain one, the same from a newer writer, one that says something else, one of another major, and those of two exporters.
use Rattle.std.specs.Prelude.{ℕ, ◌+◌, List, [], ◌∷◌, ◌++◌, length, replicate}
use Prim.Native.String.{String}
use Rattle.meaning.specs.Text.{ascii}
use Rattle.meaning.specs.Layouts.{magic}
use Rattle.meaning.specs.WrittenFile.{closing}

-- a text below 24 bytes, and one with its length in the next byte
abbrev text : String → List ℕ
text s = (0x60 + length (ascii s)) ∷ ascii s

abbrev wide_text : String → List ℕ
wide_text s = 0x78 ∷ length (ascii s) ∷ ascii s

abbrev joined : List (List ℕ) → List ℕ
joined [] = []
joined (s ∷ ss) = s ++ joined ss

-- the head of an indefinite map, and the break that ends it
abbrev open_map : List ℕ
open_map = 0xbf ∷ []

abbrev break : List ℕ
break = 0xff ∷ []

-- a file with these bytes between the magic and the manifest
abbrev framed : List ℕ → List ℕ → List ℕ
framed blobs manifest = magic ++ blobs ++ closing manifest

-- one object "w" of this shape, with one component, attributes at the root and at the object, a type and a digest
abbrev plain_of : List ℕ → List ℕ
plain_of shape = framed (replicate 64 0) (
    0xa3 ∷ text "version" ++ text "1.2.0"
    ++ text "attributes" ++ 0xa1 ∷ text "by" ++ text "us"
    ++ text "objects" ++ 0xa1 ∷ text "w" ++ 0xa4 ∷ text "shape" ++ shape ++ text "format" ++ text "dense"
    ++ text "attributes" ++ 0xa1 ∷ text "gain" ++ 3 ∷ text "components" ++ 0xa1 ∷ text "data"
    ++ 0xa5 ∷ text "dtype" ++ text "u8" ++ text "type" ++ text "f8_e5m2" ++ text "offset" ++ 0x18 ∷ 64 ∷ text "length" ++ 8 ∷ text "digest" ++ text "crc32:0")

abbrev pub plain : List ℕ
plain = plain_of (0x81 ∷ 8 ∷ [])

-- as many elements in two dimensions
abbrev pub other : List ℕ
other = plain_of (0x82 ∷ 2 ∷ 4 ∷ [])

-- the plain file's manifest from a newer writer: version 1.77.3; unknown fields in all three kinds of map, one of them twice, with null, a tag, a number as a key, chunked
-- text and a float; wider numbers and lengths, indefinite maps and an indefinite array; other bytes before the manifest
abbrev pub newer : List ℕ
newer = framed (replicate 64 0xa5) (
    open_map ++ text "x" ++ 0xf6 ∷ text "version" ++ wide_text "1.77.3" ++ text "x" ++ 0xc1 ∷ 0x00
    ∷ wide_text "attributes" ++ open_map ++ wide_text "by" ++ wide_text "us" ++ break
    ++ text "objects" ++ 0xb8 ∷ 1 ∷ text "w" ++ 0xa6
    ∷ text "chart" ++ 0xa1 ∷ 0x01 ∷ 0x7f ∷ text "a" ++ text "b" ++ 0xff
    ∷ text "shape" ++ 0x9f ∷ 0x18 ∷ 8 ∷ 0xff ∷ text "format" ++ wide_text "dense"
    ++ text "attributes" ++ 0xb8 ∷ 1 ∷ wide_text "gain" ++ 0x19 ∷ 0 ∷ 3 ∷ text "components" ++ open_map ++ text "data"
    ++ open_map ++ text "dtype" ++ text "u8" ++ text "type" ++ wide_text "f8_e5m2" ++ text "stride" ++ 0xfa ∷ 0x3f ∷ 0x80 ∷ 0 ∷ 0
    ∷ text "offset" ++ 0x1b ∷ replicate 7 0 ++ 64 ∷ text "length" ++ 0x1a ∷ 0 ∷ 0 ∷ 0 ∷ 8 ∷ text "digest" ++ text "crc32:0" ++ text "new" ++ 0x80
    ∷ break ++ break ++ text "zoom" ++ 0xf5 ∷ text "last" ++ 0x80 ∷ break)

-- version 2.0, and an unknown field; objects are a number, which no 1.x file may have
abbrev pub next_major : List ℕ
next_major = framed [] (0xa3 ∷ text "x" ++ 1 ∷ text "objects" ++ 5 ∷ text "version" ++ text "2.0")

-- a map with these entries
abbrev map_with : List (List ℕ) → List ℕ
map_with es = (0xa0 + length es) ∷ joined es

-- what an exporter writes of the objects a and b, in its order of fields and with unknown ones among them; b's blob begins at `offset`
module _ (order : List (List ℕ) → List (List ℕ)) where
  abbrev component : ℕ → ℕ → List ℕ
  component offset size = map_with (order (
      (text "dtype" ++ text "u8") ∷ (text "stride" ++ 1 ∷ []) ∷ (text "offset" ++ 0x18 ∷ offset ∷ []) ∷ (text "length" ++ size ∷ []) ∷ (text "digest" ++ text "crc32:0") ∷ []))

  abbrev object : ℕ → ℕ → List ℕ
  object offset size = map_with (order (
      (text "shape" ++ 0x81 ∷ size ∷ []) ∷ (text "format" ++ text "dense") ∷ (text "chart" ++ 0xf6 ∷ []) ∷ (text "components" ++ 0xa1 ∷ text "data" ++ component offset size) ∷ []))

  abbrev root : List ℕ → List ℕ
  root objects = framed (replicate 64 0) (map_with (order (
      (text "version" ++ text "1.2.0") ∷ (text "x" ++ 0x80 ∷ []) ∷ (text "attributes" ++ 0xa1 ∷ text "by" ++ text "us") ∷ (text "objects" ++ objects) ∷ [])))

  abbrev pub exported : ℕ → List ℕ
  exported offset = root (map_with ((text "a" ++ object 64 8) ∷ (text "b" ++ object offset 4) ∷ []))

  -- b before a
  abbrev pub exchanged : List ℕ
  exchanged = root (map_with ((text "b" ++ object 64 4) ∷ (text "a" ++ object 64 8) ∷ []))

  -- layout 1.0 has no footer; one tensor, and an unknown field
  abbrev pub tensor_file : String → List ℕ
  tensor_file version =
      let tensor = map_with (order (
      (text "dtype" ++ text "uint8") ∷ (text "shape" ++ 0x81 ∷ 8 ∷ []) ∷ (text "format" ++ text "dense")
      ∷ (text "components" ++ 0xa1 ∷ text "data" ++ map_with (order ((text "offset" ++ 0x18 ∷ 64 ∷ []) ∷ (text "length" ++ 8 ∷ []) ∷ []))) ∷ [])) in
      let manifest = map_with (order ((text "version" ++ text version) ∷ (text "x" ++ 0x80 ∷ []) ∷ (text "tensors" ++ 0xa1 ∷ text "w" ++ tensor) ∷ [])) in
      magic ++ replicate 64 0 ++ manifest ++ length manifest ∷ replicate 7 0

-- one exporter's order, and the other's
abbrev pub forwards : List (List ℕ) → List (List ℕ)
forwards es = es

abbrev pub backwards : List (List ℕ) → List (List ℕ)
backwards [] = []
backwards (e ∷ es) = backwards es ++ e ∷ []
