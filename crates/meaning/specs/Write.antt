-- Document 01, "The writer", and document 02, Request 02: its checks in order, its answer, and what the lent output holds afterwards.
use Rattle.std.specs.Prelude.{ℕ, List, ◌++◌, map, length, drop, leb}
use Rattle.meaning.specs.Check.{Check, pass, refuse, ◌>>=◌, ◌>>◌, ◌unless◌}
use Rattle.meaning.specs.Refusal.{BIG, COUNT, ROOM, ROW}
use Rattle.meaning.specs.Limit.{manifest_limit, end_limit}
use Rattle.meaning.specs.Read.{Span}
use Rattle.meaning.specs.Layouts.{current}
use Rattle.meaning.specs.Frame.{reading}
use Rattle.meaning.specs.Asked.{asked}
use Rattle.meaning.specs.Described.{Described, blobs, described}
use Rattle.meaning.specs.Sound.{rows_sound}
use Rattle.meaning.specs.Placement.{placement, last_end}
use Rattle.meaning.specs.Plan.{planned}
use Rattle.meaning.specs.Manifest.{manifest_bytes}
use Rattle.meaning.specs.WrittenFile.{file_of}

-- with its blobs at these offsets, into an output of `room` bytes: BIG, the refusal that the reader gives that file, ROOM
unfoldable pub written_at : Described → List ℕ → ℕ → Check (List ℕ)
written_at d offsets room = do
  BIG unless leb (length (manifest_bytes d offsets)) manifest_limit
  let file = file_of d offsets
  reading current file
  ROOM unless leb (length file) room
  pass file

-- with its blobs where the rule places them
unfoldable pub written_plain : Described → ℕ → Check (List ℕ)
written_plain d room = do
  let lengths = map length (blobs d)
  let offsets = placement lengths
  COUNT unless leb (last_end offsets lengths) end_limit
  written_at d offsets room

-- with its blobs where an accepted plan says
unfoldable pub written_planned : Described → List ℕ → ℕ → ℕ → Check (List ℕ)
written_planned d plan ceiling room = do
  planned ceiling plan (map length (blobs d))
  written_at d plan room

-- rows, two counts, root attributes, the buffer, and the output's length
unfoldable pub written : List ℕ → ℕ → ℕ → Span → List ℕ → ℕ → Check (List ℕ)
written rows objects components attributes buffer room = do
  ROW unless rows_sound buffer rows objects components attributes
  written_plain (described buffer (asked rows objects components attributes)) room

-- and a plan with its ceiling
unfoldable pub written_by : List ℕ → ℕ → ℕ → Span → List ℕ → List ℕ → ℕ → ℕ → Check (List ℕ)
written_by rows objects components attributes buffer plan ceiling room = do
  ROW unless rows_sound buffer rows objects components attributes
  written_planned (described buffer (asked rows objects components attributes)) plan ceiling room

pub record Written : Type 0 where
  pub number : ℕ
  pub object : ℕ
  pub component : ℕ
  pub length : ℕ

unfoldable pub write_answer : Check (List ℕ) → Written
write_answer (refuse n o c) = record { number = n; object = o; component = c; length = 0 }
write_answer (pass file) = record { number = 0; object = 0; component = 0; length = length file }

-- untouched on refusal, and beyond the file
unfoldable pub output_after : List ℕ → Check (List ℕ) → List ℕ
output_after output (refuse n o c) = output
output_after output (pass file) = file ++ drop (length file) output
