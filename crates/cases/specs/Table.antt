-- The table of the cases marked P: for each file its length, the reader's answer, the rows it writes and the text that the small program prints; and the rows of
-- those that the writer writes.
use Rattle.std.specs.Prelude.{ℕ, ◌+◌, ◌-◌, List, [], ◌∷◌, ◌++◌, Bool, ◌&&◌, length, replicate, eqb}
use Prim.Native.String.{String}
use Rattle.meaning.specs.Text.{ascii, same}
use Rattle.meaning.specs.Refusal.{FIT, LENGTH, BOUNDS, ALIGN, MAJOR, VERSION, TWICE, ROOM}
use Rattle.meaning.specs.Layouts.{Layout, current}
use Rattle.meaning.specs.Rows.{Answer, answer, table_after, read_into}
use Rattle.meaning.specs.Listing.{printed}
use Rattle.meaning.specs.Read.{Span}
use Rattle.meaning.specs.Check.{Check}
use Rattle.meaning.specs.Write.{Written, written, write_answer, output_after}
use Rattle.cases.specs.Files.{empty, empty_sized, empty_of, one_file, plain_file, two, high, middle}

pub record Case : Type 0 where
  pub file : List ℕ
  pub size : ℕ
  -- number, object, component, objects, components, manifest start, attributes' place and length
  pub answer : List ℕ
  pub rows : List ℕ
  pub lines : List String

abbrev refusal : ℕ → List ℕ
refusal n = n ∷ replicate 7 0

abbrev pub accepted : ℕ → ℕ → ℕ → List ℕ
accepted objects components start = 0 ∷ 0 ∷ 0 ∷ objects ∷ components ∷ start ∷ 0 ∷ 0 ∷ []

abbrev pub refused : List ℕ → ℕ → ℕ → String → Case
refused file size n line = record { file = file; size = size; answer = refusal n; rows = []; lines = line ∷ [] }

-- places of "w", of "dense" and of "data"; rank and dimensions. The component's map stands after its name, and takes `entry` bytes.
abbrev pub row_of : ℕ → ℕ → ℕ → List ℕ → ℕ → ℕ → ℕ → ℕ → List ℕ
row_of entry name rank dims format role offset size =
    name ∷ 1 ∷ rank ∷ dims ++ format ∷ 5 ∷ 0 ∷ 0 ∷ 1 ∷ role ∷ 4 ∷ 1 ∷ 0 ∷ 0 ∷ offset ∷ size ∷ 0 ∷ 0 ∷ 0 ∷ (role + 4) ∷ entry ∷ []

-- 28 in every case
abbrev row : ℕ → ℕ → List ℕ → ℕ → ℕ → ℕ → ℕ → List ℕ
row = row_of 28

abbrev listed : String → List String
listed blob = "objects 1 components 1" ∷ "object w dense" ∷ blob ∷ []

abbrev pub cases : List Case
cases =
    -- 1
    record { file = empty; size = 48; answer = accepted 0 0 8; rows = []; lines = "objects 0 components 0" ∷ [] }
    -- 2
    ∷ record {
      file = plain_file 8 two (0x18 ∷ 64 ∷ []) (8 ∷ []);
      size = 181;
      answer = accepted 1 1 72;
      rows = row 97 1 (2 ∷ replicate 7 0) 115 133 64 8;
      lines = listed "blob data f32 64 8";
    }
    -- 3, 4
    ∷ refused (empty_sized 25) 48 FIT "refused 5 0 0"
    ∷ refused (empty_sized 0) 48 FIT "refused 5 0 0"
    -- 5
    ∷ record {
      file = plain_file 4 (0x80 ∷ []) (0x18 ∷ 64 ∷ []) (4 ∷ []);
      size = 176;
      answer = accepted 1 1 68;
      rows = row 93 0 (replicate 8 0) 110 128 64 4;
      lines = listed "blob data f32 64 4";
    }
    ∷ refused (plain_file 4 (0x80 ∷ []) (0x18 ∷ 64 ∷ []) (0 ∷ [])) 176 LENGTH "refused 23 0 0"
    -- 6
    ∷ record {
      file = plain_file 0 ((0x83 ∷ []) ++ high ++ high ++ 0 ∷ []) (0x18 ∷ 64 ∷ []) (0 ∷ []);
      size = 191;
      answer = accepted 1 1 64;
      rows = row 89 3 (9_223_372_036_854_775_808 ∷ 9_223_372_036_854_775_808 ∷ replicate 6 0) 125 143 64 0;
      lines = listed "blob data f32 64 0";
    }
    -- 7
    ∷ refused (plain_file 0 ((0x82 ∷ []) ++ middle ++ middle) (0x18 ∷ 64 ∷ []) (0 ∷ [])) 190 LENGTH "refused 23 0 0"
    -- 8, 9
    ∷ refused (plain_file 8 two (0 ∷ []) (8 ∷ [])) 180 BOUNDS "refused 20 0 0"
    ∷ refused (plain_file 8 two (0x18 ∷ 65 ∷ []) (8 ∷ [])) 181 ALIGN "refused 19 0 0"
    -- 10
    ∷ refused (empty_of "2.0") 46 MAJOR "refused 14 0 0"
    ∷ refused (empty_of "1") 44 VERSION "refused 13 0 0"
    ∷ refused (empty_of "01.2") 47 VERSION "refused 13 0 0"
    -- 11
    ∷ record {
      file = one_file 8 5 (0x61 ∷ ascii "x" ++ 0xf4 ∷ 0x61 ∷ ascii "x" ++ 1 ∷ []) two (0x18 ∷ 64 ∷ []) (8 ∷ []);
      size = 187;
      answer = accepted 1 1 72;
      rows = row 97 1 (2 ∷ replicate 7 0) 121 139 64 8;
      lines = listed "blob data f32 64 8";
    }
    ∷ refused (one_file 8 4 (0x65 ∷ ascii "shape" ++ two) two (0x18 ∷ 64 ∷ []) (8 ∷ [])) 189 TWICE "refused 11 0 0"
    ∷ []

abbrev flat : Answer → List ℕ
flat a = a.number ∷ a.object ∷ a.component ∷ a.objects ∷ a.components ∷ a.start ∷ a.attributes.place ∷ a.attributes.size ∷ []

abbrev text : List String → List ℕ
text [] = []
text (l ∷ ls) = ascii l ++ 10 ∷ text ls

-- numbers of the lent table, and what they hold before: more than any case needs, so that those beyond the rows are seen to stay
abbrev room : ℕ
room = 30

abbrev before : ℕ → List ℕ
before n = replicate n 7

abbrev pub reads : Layout → Case → Bool
reads L c =
    eqb (length c.file) c.size
    && same (flat (answer (read_into L c.file room))) c.answer
    && same (table_after (before room) (read_into L c.file room)) (c.rows ++ before (room - length c.rows))

abbrev pub holds : Case → Bool
holds c = reads current c && same (printed c.file) (text c.lines)

-- ---------------------------------------------------------------- written files

-- rows without root attributes, and the file that they are written as
pub record Writing : Type 0 where
  pub rows : List ℕ
  pub objects : ℕ
  pub components : ℕ
  pub buffer : List ℕ
  pub file : List ℕ

abbrev pub writings : List Writing
writings =
    -- 1
    record { rows = []; objects = 0; components = 0; buffer = []; file = empty }
    -- 2, with a blob of zeros; where the component's map stands isn't looked at, and here it lies outside the buffer
    ∷ record {
      rows = row 0 1 (2 ∷ replicate 7 0) 1 6 10 8;
      objects = 1;
      components = 1;
      buffer = ascii "wdensedata" ++ replicate 8 0;
      file = plain_file 8 two (0x18 ∷ 64 ∷ []) (8 ∷ []);
    }
    ∷ []

abbrev writing : Writing → ℕ → Check (List ℕ)
writing w n = written w.rows w.objects w.components (record { place = 0; size = 0 }) w.buffer n

abbrev flat_written : Written → List ℕ
flat_written a = a.number ∷ a.object ∷ a.component ∷ a.length ∷ []

-- into an output of just its length, into a longer one, of which the rest stays, and into one that is too short and stays
abbrev pub writes : Writing → Bool
writes w =
    let n = length w.file in
    same (flat_written (write_answer (writing w n))) (0 ∷ 0 ∷ 0 ∷ n ∷ [])
    && same (output_after (before n) (writing w n)) w.file
    && same (output_after (before (n + 3)) (writing w (n + 3))) (w.file ++ before 3)
    && same (flat_written (write_answer (writing w (n - 1)))) (ROOM ∷ 0 ∷ 0 ∷ 0 ∷ [])
    && same (output_after (before (n - 1)) (writing w (n - 1))) (before (n - 1))
