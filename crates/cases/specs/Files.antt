-- Document 01, "Sound files and their neighbours": the files of the cases marked P, byte by byte, with short names for short heads.
use Rattle.std.specs.Prelude.{ℕ, zero, suc, ◌+◌, ◌-◌, ◌/◌, ◌%◌, List, [], ◌∷◌, ◌++◌, length, replicate}
use Prim.Native.String.{String}
use Rattle.meaning.specs.Text.{ascii}

-- heads with an argument below 24
abbrev pub text : String → List ℕ
text s = (0x60 + length (ascii s)) ∷ ascii s

abbrev pub map : ℕ → List ℕ
map n = (0xa0 + n) ∷ []

abbrev pub list : ℕ → List ℕ
list n = (0x80 + n) ∷ []

abbrev pub number : ℕ → List ℕ
number n = n ∷ []

-- a number from 24 to 255
abbrev pub byte_number : ℕ → List ℕ
byte_number n = 0x18 ∷ n ∷ []

-- k bytes of a number, the least significant first
abbrev pub little : ℕ → ℕ → List ℕ
little zero n = []
little (suc k) n = n % 256 ∷ little k (n / 256)

-- what stands before the manifest, the manifest, and what its size is said to be
abbrev framed : List ℕ → List ℕ → ℕ → List ℕ
framed blobs manifest size = ascii "ZTEN1000" ++ blobs ++ manifest ++ little 8 size ++ ascii "ZTEN1000"

-- case 1, whole as document 01 gives it
abbrev pub empty : List ℕ
empty =
    ascii "ZTEN1000" ++ 0xa2 ∷ 0x67 ∷ ascii "version" ++ 0x65 ∷ ascii "1.2.0" ++ 0x67 ∷ ascii "objects" ++ 0xa0
    ∷ 0x18 ∷ 0x00 ∷ 0x00 ∷ 0x00 ∷ 0x00 ∷ 0x00 ∷ 0x00 ∷ 0x00 ∷ ascii "ZTEN1000"

abbrev pub empty_manifest : String → List ℕ
empty_manifest version = map 2 ++ text "version" ++ text version ++ text "objects" ++ map 0

-- case 1 with another size, or another version
abbrev pub empty_sized : ℕ → List ℕ
empty_sized size = framed [] (empty_manifest "1.2.0") size

abbrev pub empty_of : String → List ℕ
empty_of version = framed [] (empty_manifest version) (length (empty_manifest version))

-- one object "w", dense, one f32 component; `fields` are pairs of the object map before its shape
abbrev pub one_manifest : ℕ → List ℕ → List ℕ → List ℕ → List ℕ → List ℕ
one_manifest pairs fields shape offset size =
    map 2 ++ text "version" ++ text "1.2.0" ++ text "objects" ++ map 1 ++ text "w"
    ++ map pairs ++ fields ++ text "shape" ++ shape ++ text "format" ++ text "dense" ++ text "components" ++ map 1 ++ text "data"
    ++ map 3 ++ text "dtype" ++ text "f32" ++ text "offset" ++ offset ++ text "length" ++ size

-- its file, with `blob` bytes of a blob from 64 on
abbrev pub one_file : ℕ → ℕ → List ℕ → List ℕ → List ℕ → List ℕ → List ℕ
one_file blob pairs fields shape offset size =
    framed (replicate (56 + blob) 0) (one_manifest pairs fields shape offset size) (length (one_manifest pairs fields shape offset size))

abbrev pub two : List ℕ
two = list 1 ++ number 2

-- case 2, and the same with other numbers
abbrev pub plain_file : ℕ → List ℕ → List ℕ → List ℕ → List ℕ
plain_file blob shape offset size = one_file blob 3 [] shape offset size

-- 2 ^ 63 and 2 ^ 32, in eight bytes
abbrev pub high : List ℕ
high = 0x1b ∷ 0x80 ∷ replicate 7 0

abbrev pub middle : List ℕ
middle = 0x1b ∷ 0 ∷ 0 ∷ 0 ∷ 1 ∷ replicate 4 0
