-- Document 02, Request 10: two descriptions in one, and the merging of two files, each of either layout, into a file of 1.2.0: its refusals in order, its answer, and what the lent output and rows
-- hold afterwards.
use Rattle.std.specs.Prelude.{ℕ, ◌+◌, ◌*◌, List, ◌++◌, cond, ◌&&◌, length, drop, replicate, leb}
use Rattle.std.proofs.Math.Option.{Option, none, some}
use Rattle.meaning.specs.Refusal.{ROOM}
use Rattle.meaning.specs.Check.{Check, pass, refuse}
use Rattle.meaning.specs.Layouts.{Layout}
use Rattle.meaning.specs.Frame.{reading}
use Rattle.meaning.specs.Columns.{object_width, component_width}
use Rattle.meaning.specs.Described.{Described, blobs, described_by}
use Rattle.meaning.specs.Write.{written_plain}
use Rattle.roundtrip.specs.Again.{plain_file}

-- ---------------------------------------------------------------- descriptions

-- the first's if it has any, else the second's
unfoldable pub or_else : Option (List ℕ) → Option (List ℕ) → Option (List ℕ)
or_else none b = b
or_else (some a) b = some a

-- the first's objects, then the second's
unfoldable pub merged : Described → Described → Described
merged a b = record { attributes = or_else a.attributes b.attributes; objects = a.objects ++ b.objects }

-- numbers of its rows
unfoldable pub rows_room : Described → ℕ
rows_room d = object_width * length d.objects + component_width * length (blobs d)

-- ---------------------------------------------------------------- merging

-- the merged file; a refusal and which file it is about, 1 or 2, or 0 for the merged one; or ROOM, with the length that is needed
pub data Merge : Type 0 where
  done : List ℕ → Merge
  refused : ℕ → ℕ → ℕ → ℕ → Merge
  short : ℕ → Merge

-- go on, unless there is a refusal: it is about this file
unfoldable pub about : {A : Type 0} → ℕ → Check A → (A → Merge) → Merge
about file (pass a) k = k a
about file (refuse n o c) k = refused file n o c

-- what is left to answer of a description that nothing refuses: its file, or ROOM
abbrev pub roomed : Described → ℕ → ℕ → Merge
roomed d lent room = cond (leb (length (plain_file d)) room && leb (rows_room d) lent) (done (plain_file d)) (short (length (plain_file d)))

-- COUNT (2 ^ 40), BIG, the reader's refusal; then ROOM, for the output or for rows, whichever is short. The writer is given all the room that its file takes, so that ROOM is the merge's own.
unfoldable pub merge_into : Described → ℕ → ℕ → Merge
merge_into d lent room =
    about 0 (written_plain d (length (plain_file d))) λ file. cond (leb (length file) room && leb (rows_room d) lent) (done file) (short (length file))

-- a first file of layout L and a second of layout M, with `lent` numbers of rows to work in, into an output of `room` bytes
unfoldable pub merge : Layout → List ℕ → Layout → List ℕ → ℕ → ℕ → Merge
merge L first M second lent room =
    about 1 (reading L first) λ a. about 2 (reading M second) λ b. merge_into (merged (described_by first a.model) (described_by second b.model)) lent room

pub record MergeAnswer : Type 0 where
  pub number : ℕ
  pub file : ℕ
  pub object : ℕ
  pub component : ℕ
  pub length : ℕ

unfoldable pub merge_answer : Merge → MergeAnswer
merge_answer (done f) = record { number = 0; file = 0; object = 0; component = 0; length = length f }
merge_answer (refused file n o c) = record { number = n; file = file; object = o; component = c; length = 0 }
merge_answer (short l) = record { number = ROOM; file = 0; object = 0; component = 0; length = l }

-- untouched on refusal, and beyond the file
unfoldable pub merge_output : List ℕ → Merge → List ℕ
merge_output output (done f) = f ++ drop (length f) output
merge_output output (refused file n o c) = output
merge_output output (short l) = output

-- zeros over all that was lent, refused or not
unfoldable pub merge_rows : List ℕ → List ℕ
merge_rows rows = replicate (length rows) 0
