-- Refused files, and what is said of each: number, object, component, place and length of both names, place and length of what is at fault, room.
use Rattle.std.specs.Prelude.{ℕ, ◌+◌, List, [], ◌∷◌, ◌++◌, Bool, length, replicate}
use Prim.Native.String.{String}
use Rattle.meaning.specs.Text.{ascii, same}
use Rattle.meaning.specs.WrittenFile.{little_bytes}
use Rattle.meaning.specs.Layouts.{layout_of}
use Rattle.cases.specs.Files.{empty_sized, empty_of, one_file, plain_file, two}
use Rattle.explained.specs.Explain.{Explanation, explain}
use Rattle.explained.specs.Sentence.{sentence}

abbrev text : String → List ℕ
text s = (0x60 + length (ascii s)) ∷ ascii s

-- one object "w" with a component; the manifest begins at 72
abbrev manifest : String → String → List ℕ
manifest format role =
    0xa2 ∷ text "version" ++ text "1.2.0" ++ text "objects" ++ 0xa1 ∷ text "w"
    ++ 0xa3 ∷ text "shape" ++ two ++ text "format" ++ text format ++ text "components" ++ 0xa1 ∷ text role
    ++ 0xa3 ∷ text "dtype" ++ text "f32" ++ text "offset" ++ 0x18 ∷ 64 ∷ text "length" ++ 8 ∷ []

abbrev format_file : String → String → List ℕ
format_file format role =
    ascii "ZTEN1000" ++ replicate 64 0 ++ manifest format role ++ little_bytes 8 (length (manifest format role)) ++ ascii "ZTEN1000"

-- in layout 1.0, one tensor "w" with this dtype and role; the manifest begins at 72
abbrev old_manifest : String → String → ℕ → List ℕ
old_manifest dtype role size =
    0xa2 ∷ text "version" ++ text "1.0" ++ text "tensors" ++ 0xa1 ∷ text "w"
    ++ 0xa4 ∷ text "dtype" ++ text dtype ++ text "shape" ++ two ++ text "format" ++ text "dense" ++ text "components" ++ 0xa1 ∷ text role
    ++ 0xa2 ∷ text "offset" ++ 0x18 ∷ 64 ∷ text "length" ++ size ∷ []

abbrev old_file : String → String → ℕ → List ℕ
old_file dtype role size =
    ascii "ZTEN1000" ++ replicate 64 0 ++ old_manifest dtype role size ++ little_bytes 8 (length (old_manifest dtype role size))

pub record Case : Type 0 where
  -- 1 is layout 1.0, every other number is 1.2.0
  pub layout : ℕ
  pub file : List ℕ
  pub room : ℕ
  pub says : List ℕ

abbrev pub cases : List Case
cases =
    -- the size's eight bytes
    record { layout = 0; file = empty_sized 25; room = 0; says = 5 ∷ 0 ∷ 0 ∷ 0 ∷ 0 ∷ 0 ∷ 0 ∷ 32 ∷ 8 ∷ 0 ∷ [] }
    -- bytes left over after the first text
    ∷ record { layout = 0; file = empty_sized 23; room = 0; says = 6 ∷ 0 ∷ 0 ∷ 0 ∷ 0 ∷ 0 ∷ 0 ∷ 17 ∷ 1 ∷ 0 ∷ [] }
    -- the version's value
    ∷ record { layout = 0; file = empty_of "2.0"; room = 0; says = 14 ∷ 0 ∷ 0 ∷ 0 ∷ 0 ∷ 0 ∷ 0 ∷ 17 ∷ 4 ∷ 0 ∷ [] }
    -- the shape's second element
    ∷ record { layout = 0; file = plain_file 8 (0x82 ∷ 2 ∷ 0x61 ∷ 120 ∷ []) (0x18 ∷ 64 ∷ []) (8 ∷ []); room = 0; says = 8 ∷ 0 ∷ 0 ∷ 97 ∷ 1 ∷ 0 ∷ 0 ∷ 107 ∷ 2 ∷ 0 ∷ [] }
    -- the second "shape"
    ∷ record { layout = 0; file = one_file 8 4 (0x65 ∷ ascii "shape" ++ two) two (0x18 ∷ 64 ∷ []) (8 ∷ []); room = 0; says = 11 ∷ 0 ∷ 0 ∷ 97 ∷ 1 ∷ 0 ∷ 0 ∷ 107 ∷ 6 ∷ 0 ∷ [] }
    -- no "data": the components' map
    ∷ record { layout = 0; file = format_file "dense" "late"; room = 0; says = 22 ∷ 0 ∷ 0 ∷ 97 ∷ 1 ∷ 0 ∷ 0 ∷ 131 ∷ 34 ∷ 0 ∷ [] }
    -- the offset's value
    ∷ record { layout = 0; file = plain_file 8 two (0x18 ∷ 65 ∷ []) (8 ∷ []); room = 0; says = 19 ∷ 0 ∷ 0 ∷ 97 ∷ 1 ∷ 133 ∷ 4 ∷ 155 ∷ 2 ∷ 0 ∷ [] }
    -- the length's value
    ∷ record { layout = 0; file = plain_file 8 two (0x18 ∷ 64 ∷ []) (7 ∷ []); room = 0; says = 23 ∷ 0 ∷ 0 ∷ 97 ∷ 1 ∷ 133 ∷ 4 ∷ 164 ∷ 1 ∷ 0 ∷ [] }
    -- the room that is needed
    ∷ record { layout = 0; file = plain_file 8 two (0x18 ∷ 64 ∷ []) (8 ∷ []); room = 27; says = 24 ∷ 0 ∷ 0 ∷ 0 ∷ 0 ∷ 0 ∷ 0 ∷ 0 ∷ 0 ∷ 28 ∷ [] }
    -- layout 1.0: the file; the tensor's dtype; its role; the component's length
    ∷ record { layout = 1; file = ascii "ZTEN1000"; room = 0; says = 1 ∷ 0 ∷ 0 ∷ 0 ∷ 0 ∷ 0 ∷ 0 ∷ 0 ∷ 8 ∷ 0 ∷ [] }
    ∷ record { layout = 1; file = old_file "f32" "data" 8; room = 0; says = 16 ∷ 0 ∷ 0 ∷ 95 ∷ 1 ∷ 0 ∷ 0 ∷ 103 ∷ 4 ∷ 0 ∷ [] }
    ∷ record { layout = 1; file = old_file "float32" "late" 8; room = 0; says = 22 ∷ 0 ∷ 0 ∷ 95 ∷ 1 ∷ 0 ∷ 0 ∷ 143 ∷ 24 ∷ 0 ∷ [] }
    ∷ record { layout = 1; file = old_file "float32" "data" 7; room = 0; says = 23 ∷ 0 ∷ 0 ∷ 95 ∷ 1 ∷ 145 ∷ 4 ∷ 166 ∷ 1 ∷ 0 ∷ [] }
    ∷ record { layout = 1; file = old_file "float32" "data" 8; room = 28; says = 0 ∷ 0 ∷ 0 ∷ 0 ∷ 0 ∷ 0 ∷ 0 ∷ 0 ∷ 0 ∷ 0 ∷ [] }
    ∷ []

-- the sentence about a file, without its newline
pub record Said : Type 0 where
  pub layout : ℕ
  pub file : List ℕ
  pub room : ℕ
  pub line : String

abbrev pub sentences : List Said
sentences =
    record { layout = 0; file = plain_file 8 two (0x18 ∷ 64 ∷ []) (8 ∷ []); room = 28; line = "accepted" }
    ∷ record { layout = 0; file = plain_file 8 two (0x18 ∷ 65 ∷ []) (8 ∷ []); room = 0; line = "refused 19 ALIGN: offset not a multiple of 64; object w; component data; bytes 155 to 156" }
    ∷ record { layout = 0; file = plain_file 8 two (0x18 ∷ 64 ∷ []) (8 ∷ []); room = 27; line = "refused 24 ROOM: lent table too short; 28 numbers needed" }
    ∷ record { layout = 0; file = empty_sized 23; room = 0; line = "refused 6 CBOR: malformed, ended early, or bytes left over; bytes 17 to 17" }
    ∷ record { layout = 0; file = []; room = 0; line = "refused 1 SHORT: file under 24 bytes; at byte 0" }
    ∷ record { layout = 1; file = ascii "ZTEN1000"; room = 0; line = "refused 1 SHORT: file under 16 bytes; bytes 0 to 7" }
    ∷ []

abbrev pub spoken : Said → Bool
spoken c = same (sentence (layout_of c.layout) c.file c.room) (ascii c.line ++ 10 ∷ [])

abbrev pub flat : Explanation → List ℕ
flat e =
    e.number ∷ e.object ∷ e.component ∷ e.object_name.place ∷ e.object_name.size ∷ e.component_name.place ∷ e.component_name.size
    ∷ e.place.place ∷ e.place.size ∷ e.room ∷ []

abbrev pub holds : Case → Bool
holds c = same (flat (explain (layout_of c.layout) c.file c.room)) c.says
