-- Small files, for rescues that are computed.
use Rattle.std.specs.Prelude.{ℕ, ◌+◌, List, [], ◌∷◌, ◌++◌, length, replicate}
use Prim.Native.String.{String}
use Rattle.std.proofs.Math.Option.{none, some}
use Rattle.meaning.specs.Text.{ascii}
use Rattle.meaning.specs.Described.{DescribedObject, Described}
use Rattle.cases.specs.Files.{text, map, number, byte_number, little, two}
use Rattle.roundtrip.specs.Again.{plain_file}

-- a dense object of two bytes of dtype u8 (11); any other length is LENGTH
abbrev pub dense : String → List ℕ → DescribedObject
dense name blob = record {
  name = ascii name;
  shape = 2 ∷ [];
  format = ascii "dense";
  attributes = none;
  components = record { name = ascii "data"; dtype = 11; type = none; digest = none; blob = blob } ∷ [];
}

-- of rank 1, where 2 is asked
abbrev pub rankless : String → DescribedObject
rankless name = record { name = ascii name; shape = 2 ∷ []; format = ascii "sparse_csr"; attributes = none; components = [] }

-- with root attributes
abbrev pub say : List DescribedObject → Described
say os = record { attributes = some (0xa1 ∷ 0x61 ∷ 0x6b ∷ 0x01 ∷ []); objects = os }

abbrev pub file_of : List DescribedObject → List ℕ
file_of os = plain_file (say os)

-- a tensor of layout 1.0 with one component at 64, of so many bytes
abbrev tensor : String → String → ℕ → List ℕ
tensor name dtype size =
    text name ++ map 4 ++ text "dtype" ++ text dtype ++ text "shape" ++ two ++ text "format" ++ text "dense"
    ++ text "components" ++ map 1 ++ text "data" ++ map 2 ++ text "offset" ++ byte_number 64 ++ text "length" ++ number size

abbrev old_manifest : List ℕ
old_manifest = map 2 ++ text "version" ++ text "1.0" ++ text "tensors" ++ map 3 ++ tensor "a" "f32" 8 ++ tensor "b" "float32" 8 ++ tensor "c" "float32" 9

-- a short dtype name; sound; a byte too many
abbrev pub old_file : List ℕ
old_file = ascii "ZTEN1000" ++ replicate (56 + 9) 7 ++ old_manifest ++ little 8 (length old_manifest)

-- what is sound of it
abbrev pub of_old : Described
of_old = record {
  attributes = none;
  objects = record {
    name = ascii "b";
    shape = 2 ∷ [];
    format = ascii "dense";
    attributes = none;
    components = record { name = ascii "data"; dtype = 1; type = none; digest = none; blob = replicate 8 7 } ∷ [];
  } ∷ [];
}
