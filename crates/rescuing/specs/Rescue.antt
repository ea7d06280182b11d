-- Document 02, Request 14: a file rescued into one of 1.2.0: its refusals in order, its answer, and what the lent list, output and rows hold afterwards.
use Rattle.std.specs.Prelude.{ℕ, ◌*◌, List, [], ◌∷◌, ◌++◌, cond, ◌&&◌, length, drop, replicate, leb}
use Rattle.meaning.specs.Refusal.{ROOM}
use Rattle.meaning.specs.Check.{Check, pass, refuse}
use Rattle.meaning.specs.Layouts.{Layout}
use Rattle.meaning.specs.Rows.{room_for}
use Rattle.meaning.specs.Described.{described_by}
use Rattle.meaning.specs.Write.{written_plain}
use Rattle.roundtrip.specs.Again.{plain_file}
use Rattle.rescuing.specs.Sift.{Dropped, Sifted, sifted}

-- the file written, of so many objects kept, and what was dropped; a refusal; or ROOM, with what would have been answered: kept, dropped, and the length
pub data Rescue : Type 0 where
  done : List ℕ → ℕ → List Dropped → Rescue
  refused : ℕ → ℕ → ℕ → Rescue
  short : ℕ → ℕ → ℕ → Rescue

-- go on, unless there is a refusal
unfoldable pub after : {A : Type 0} → Check A → (A → Rescue) → Rescue
after (pass a) k = k a
after (refuse n o c) k = refused n o c

-- an entry of the list takes so many numbers
abbrev pub entry_width : ℕ
entry_width = 3

unfoldable pub entries : List Dropped → List ℕ
entries [] = []
entries (d ∷ ds) = d.index ∷ d.number ∷ d.component ∷ entries ds

-- what is left to answer of a file of which nothing that is kept is refused: the file written, or ROOM
abbrev pub roomed : List ℕ → Sifted → ℕ → ℕ → ℕ → Rescue
roomed file s lent list room =
    let once = plain_file (described_by file s.model) in
    cond (leb (room_for s.model) lent && leb (entry_width * length s.dropped) list && leb (length once) room)
    (done once (length s.model.objects) s.dropped) (short (length s.model.objects) (length s.dropped) (length once))

-- what is kept is written: COUNT (2 ^ 40), BIG; then ROOM, for rows, list or output, whichever is short. The writer is given all the room that its file takes, so that ROOM is the rescue's own.
unfoldable pub rescue_into : List ℕ → Sifted → ℕ → ℕ → ℕ → Rescue
rescue_into file s lent list room =
    let d = described_by file s.model in
    after (written_plain d (length (plain_file d))) λ once.
    cond (leb (room_for s.model) lent && leb (entry_width * length s.dropped) list && leb (length once) room)
    (done once (length s.model.objects) s.dropped) (short (length s.model.objects) (length s.dropped) (length once))

-- with `lent` numbers of rows to work in, into a list of `list` numbers and an output of `room` bytes
unfoldable pub rescue : Layout → List ℕ → ℕ → ℕ → ℕ → Rescue
rescue L file lent list room = after (sifted L file) λ s. rescue_into file s lent list room

pub record Rescued : Type 0 where
  pub number : ℕ
  pub object : ℕ
  pub component : ℕ
  pub kept : ℕ
  pub dropped : ℕ
  pub length : ℕ

unfoldable pub rescue_answer : Rescue → Rescued
rescue_answer (done once kept ds) = record { number = 0; object = 0; component = 0; kept = kept; dropped = length ds; length = length once }
rescue_answer (refused n o c) = record { number = n; object = o; component = c; kept = 0; dropped = 0; length = 0 }
rescue_answer (short kept dropped l) = record { number = ROOM; object = 0; component = 0; kept = kept; dropped = dropped; length = l }

-- untouched on refusal, and beyond the entries
unfoldable pub rescue_list : List ℕ → Rescue → List ℕ
rescue_list list (done once kept ds) = entries ds ++ drop (entry_width * length ds) list
rescue_list list (refused n o c) = list
rescue_list list (short kept dropped l) = list

-- untouched on refusal, and beyond the file
unfoldable pub rescue_output : List ℕ → Rescue → List ℕ
rescue_output output (done once kept ds) = once ++ drop (length once) output
rescue_output output (refused n o c) = output
rescue_output output (short kept dropped l) = output

-- zeros over all that was lent, refused or not
unfoldable pub rescue_rows : List ℕ → List ℕ
rescue_rows rows = replicate (length rows) 0
