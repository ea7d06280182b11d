-- The rows of an accepted file written once more, and what the writer answers for them: COUNT (2 ^ 40), BIG, ROOM, or the file of what the accepted one says. No other refusal is left.
use Rattle.std.specs.Prelude.{ℕ, List, ◌++◌, map, true, ◌≡◌, length, leb}
use Rattle.meaning.specs.Check.{Check, pass, refuse, ◌>>◌, ◌unless◌}
use Rattle.meaning.specs.Refusal.{COUNT, BIG, ROOM}
use Rattle.meaning.specs.Limit.{manifest_limit, end_limit}
use Rattle.meaning.specs.Read.{Span}
use Rattle.meaning.specs.Model.{Model}
use Rattle.meaning.specs.Layouts.{Layout}
use Rattle.meaning.specs.Frame.{Reading}
use Rattle.meaning.specs.Rows.{rows, component_count, attributes_span, answer, table_after, read_into}
use Rattle.meaning.specs.Asked.{asked}
use Rattle.meaning.specs.Sound.{rows_sound}
use Rattle.meaning.specs.Write.{written}
use Rattle.meaning.specs.Described.{Described, blobs, described}
use Rattle.meaning.specs.Placement.{placement, last_end}
use Rattle.meaning.specs.Manifest.{manifest_bytes}
use Rattle.meaning.specs.WrittenFile.{file_of}
use Rattle.readback.specs.Back.{ReadsBack}

module _ (d : Described) where
  -- where the rule places the blobs
  abbrev pub placed : List ℕ
  placed = placement (map length (blobs d))

  -- the writer's file
  unfoldable pub plain_file : List ℕ
  plain_file = file_of d placed

  unfoldable pub written_again : ℕ → Check (List ℕ)
  written_again room = do
    COUNT unless leb (last_end placed (map length (blobs d))) end_limit
    BIG unless leb (length (manifest_bytes d placed)) manifest_limit
    ROOM unless leb (length plain_file) room
    pass plain_file

-- what the writer answers where nothing but the sizes can stand in its way: a refusal for one of them, with 0 and 0, or a file that reads back as d
pub data WrittenOrSize (d : Described) : Check (List ℕ) → Type 0 where
  too_far : WrittenOrSize d (refuse COUNT 0 0)
  too-big : WrittenOrSize d (refuse BIG 0 0)
  no_room : WrittenOrSize d (refuse ROOM 0 0)
  reads-back : {once : List ℕ} → ReadsBack once d → WrittenOrSize d (pass once)

-- the rows of a model, whatever follows them in the table, with the file as buffer
module _ (file : List ℕ) (m : Model Span) (R : List ℕ) where
  abbrev pub sound_again : Type 0
  sound_again = rows_sound file (rows m ++ R) (length m.objects) (component_count m.objects) (attributes_span m.attributes) ≡ true

  abbrev pub described_again : Described
  described_again = described file (asked (rows m ++ R) (length m.objects) (component_count m.objects) (attributes_span m.attributes))

  -- into an output of so many bytes
  abbrev pub rewritten : ℕ → Check (List ℕ)
  rewritten room = written (rows m ++ R) (length m.objects) (component_count m.objects) (attributes_span m.attributes) file room

-- the table that a reading left, with its counts and root attributes and the file as buffer, into an output of so many bytes
module _ (L : Layout) (file table : List ℕ) where
  abbrev left : Check Reading
  left = read_into L file (length table)

  abbrev pub written_then : ℕ → Check (List ℕ)
  written_then room = written (table_after table left) (answer left).objects (answer left).components (answer left).attributes file room
