-- Files of layout 1.0 (document 001) and what the reader answers when it is asked to read them as such.
use Rattle.std.specs.Prelude.{ℕ, ◌+◌, List, [], ◌∷◌, ◌++◌, map as map_list, Bool, ◌&&◌, length, replicate}
use Prim.Native.String.{String}
use Rattle.std.proofs.Math.Option.{Option, none, some}
use Rattle.meaning.specs.Text.{ascii, same}
use Rattle.meaning.specs.Refusal.{SHORT, FIT, MISSING, DTYPE, LENGTH}
use Rattle.meaning.specs.Check.{Check, pass, refuse}
use Rattle.meaning.specs.Model.{Component, Object}
use Rattle.meaning.specs.Read.{Span}
use Rattle.meaning.specs.Frame.{Reading, reading}
use Rattle.meaning.specs.Layouts.{old}
use Rattle.meaning.specs.Types.{code_from}
use Rattle.cases.specs.Files.{text, map, list, number, byte_number, little, two, empty}
use Rattle.cases.specs.Table.{Case, accepted, refused, row_of, reads}

abbrev framed : List ℕ → List ℕ → ℕ → List ℕ
framed blobs manifest size = ascii "ZTEN1000" ++ blobs ++ manifest ++ little 8 size

-- blobs from 64 on, so many bytes
abbrev file_of : ℕ → List ℕ → List ℕ
file_of blob manifest = framed (replicate (56 + blob) 0) manifest (length manifest)

abbrev root : String → List ℕ → List ℕ
root tensors value = map 2 ++ text "version" ++ text "1.0" ++ text tensors ++ value

-- a component without further fields
abbrev part : String → List ℕ → List ℕ → List ℕ
part name offset size = text name ++ map 2 ++ text "offset" ++ offset ++ text "length" ++ size

-- one tensor "e" of so many fields
abbrev tensor : ℕ → List ℕ → List ℕ
tensor n fields = root "tensors" (map 1 ++ text "e" ++ map n ++ fields)

abbrev dtype : String → List ℕ
dtype name = text "dtype" ++ text name

abbrev shape : List ℕ → List ℕ
shape s = text "shape" ++ s

abbrev dense : List ℕ
dense = text "format" ++ text "dense" ++ text "components" ++ map 1 ++ part "data" (byte_number 64) (number 8)

-- document 001's dense example in small
abbrev example : String → List ℕ
example name = file_of 8 (tensor 4 (dtype name ++ shape two ++ dense))

-- a sparse_csr of one row, with one value; `indices` of so many bytes
abbrev csr : ℕ → List ℕ
csr n =
    file_of 144 (tensor 4 (dtype "float32" ++ shape (list 2 ++ number 1 ++ number 4) ++ text "format" ++ text "sparse_csr" ++ text "components" ++ map 3
    ++ part "values" (byte_number 64) (number 4) ++ part "indices" (byte_number 128) (number n) ++ part "indptr" (byte_number 192) (number 16)))

-- its map takes 18 bytes
abbrev row : ℕ → ℕ → List ℕ → ℕ → ℕ → ℕ → ℕ → List ℕ
row = row_of 18

abbrev pub old_cases : List Case
old_cases =
    -- no blob: the manifest takes all but 16 bytes
    record { file = framed [] (root "tensors" (map 0)) 22; size = 38; answer = accepted 0 0 8; rows = []; lines = [] }
    ∷ refused (framed [] (root "tensors" (map 0)) 23) 38 FIT ""
    ∷ refused (replicate 15 0) 15 SHORT ""
    ∷ record { file = example "float32"; size = 175; answer = accepted 1 1 72; rows = row 95 1 (2 ∷ replicate 7 0) 127 145 64 8; lines = [] }
    -- a short name; none
    ∷ refused (example "f32") 171 DTYPE ""
    ∷ refused (file_of 8 (tensor 3 (shape two ++ dense))) 161 MISSING ""
    -- the dtype after the components
    ∷ record {
      file = file_of 8 (tensor 4 (shape two ++ dense ++ dtype "float32"));
      size = 175;
      answer = accepted 1 1 72;
      rows = row 95 1 (2 ∷ replicate 7 0) 113 131 64 8;
      lines = [];
    }
    -- `objects` and attributes of a tensor are unknown here
    ∷ refused (framed [] (root "objects" (map 0)) 22) 38 MISSING ""
    ∷ record {
      file = file_of 8 (tensor 5 (text "attributes" ++ number 0 ++ dtype "float32" ++ shape two ++ dense));
      size = 187;
      answer = accepted 1 1 72;
      rows = row 95 1 (2 ∷ replicate 7 0) 139 157 64 8;
      lines = [];
    }
    -- document 001's sparse_csr example has half its indices' bytes
    ∷ record { file = csr 4; size = 370; answer = LENGTH ∷ 0 ∷ 1 ∷ replicate 5 0; rows = []; lines = [] }
    ∷ []

abbrev codes_of : List (Object Span) → List ℕ
codes_of [] = []
codes_of (o ∷ os) = map_list (λ c. c.dtype) o.components ++ codes_of os

abbrev codes : Check Reading → List ℕ
codes (pass r) = codes_of r.model.objects
codes (refuse n o c) = []

-- the dense example by another exporter: a later version, every map's fields in another order, and a generator
abbrev pub plain_example : List ℕ
plain_example = example "float32"

abbrev pub shuffled_example : List ℕ
shuffled_example =
    file_of 8 (map 3 ++ text "tensors" ++ map 1 ++ text "e" ++ map 4
    ++ text "components" ++ map 1 ++ text "data" ++ map 2 ++ text "length" ++ number 8 ++ text "offset" ++ byte_number 64
    ++ text "format" ++ text "dense" ++ dtype "float32" ++ shape two
    ++ text "generator" ++ text "x" ++ text "version" ++ text "1.7")

abbrev found : Option ℕ → List ℕ
found none = []
found (some c) = c ∷ []

abbrev code_of : List ℕ → List ℕ
code_of n = found (code_from 0 old.dtypes n)

abbrev codes_in : List (List ℕ) → List ℕ
codes_in [] = []
codes_in (n ∷ ns) = code_of n ++ codes_in ns

-- indices and indptr of a sparse_csr are u64, its values are the tensor's; the shuffled example is accepted; each long name is its code's
abbrev pub old_holds : Bool
old_holds =
    same (codes (reading old (csr 8))) (1 ∷ 8 ∷ 8 ∷ []) && same (codes (reading old shuffled_example)) (1 ∷ [])
    && same (codes_in old.dtypes) (0 ∷ 1 ∷ 2 ∷ 3 ∷ 4 ∷ 5 ∷ 6 ∷ 7 ∷ 8 ∷ 9 ∷ 10 ∷ 11 ∷ 12 ∷ [])

-- two tensors of shapes [2] and [1], in this order of their names; both share the first bytes of the blob
abbrev small : ℕ → ℕ → List ℕ
small n size =
    map 4 ++ dtype "float32" ++ shape (list 1 ++ number n) ++ text "format" ++ text "dense" ++ text "components" ++ map 1 ++ part "data" (byte_number 64) (number size)

abbrev pub tensors_in_order : List ℕ
tensors_in_order = file_of 8 (root "tensors" (map 2 ++ text "a" ++ small 2 8 ++ text "b" ++ small 1 4))

abbrev pub tensors_swapped : List ℕ
tensors_swapped = file_of 8 (root "tensors" (map 2 ++ text "b" ++ small 1 4 ++ text "a" ++ small 2 8))

-- a shape twice, the right one first or last
abbrev pub right_first : List ℕ
right_first = file_of 8 (tensor 5 (dtype "float32" ++ shape two ++ shape (list 1 ++ number 3) ++ dense))

abbrev pub right_last : List ℕ
right_last = file_of 8 (tensor 5 (dtype "float32" ++ shape (list 1 ++ number 3) ++ shape two ++ dense))
