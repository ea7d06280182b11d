-- What was read, in any layout, can be written in 1.2.0's: an accepted file's rows are sound, they describe what the file does, and writing them gives the file of that description, or COUNT
-- (2 ^ 40), BIG or ROOM.
use Prim.Native.Nat.{ℕ}
use mathlib.Core.List.{List, map}
use mathlib.Core.Bool.{Bool, true, false}
use mathlib.Core.Path.{◌≡◌, refl, sym, subst, ◌∙◌}
use lib.ListN.{length, drop}
use lib.Dec.{leb}
use Rattle.meaning.specs.Check.{pass, ◌>>◌, ◌unless◌}
use Rattle.meaning.specs.Refusal.{COUNT, BIG, ROOM}
use Rattle.meaning.specs.Limit.{manifest_limit, end_limit}
use Rattle.meaning.specs.Layouts.{Layout, current}
use Rattle.meaning.specs.Frame.{Reading, reading}
use Rattle.meaning.specs.Rows.{room_for, answer, table_after, read_into}
use Rattle.meaning.specs.Described.{Described, blobs, described_by}
use Rattle.meaning.specs.Placement.{last_end}
use Rattle.meaning.specs.Manifest.{manifest_bytes}
use Rattle.meaning.specs.Write.{written_plain}
use Rattle.readback.specs.Lent.{Held}
use Rattle.readback.specs.Back.{ReadsBack}
use Rattle.readback.proofs.ReadBack.{written-plain-is, written-plain-reads-back}
use Rattle.readback.proofs.RowsOfReading as rows-laws
use Rattle.shown.specs.Accepted.{Framing}
use Rattle.shown.proofs.ReadingJudged.{current-framing}
use Rattle.shown.proofs.AfterReading.{read-accepts}
use Rattle.roundtrip.specs.Again.{placed, plain_file, written_again, WrittenOrSize, too_far, too-big, no_room, reads-back, sound_again, described_again, rewritten, written_then}
use Rattle.roundtrip.proofs.AcceptedSpelled.{accepted-spelled}
use Rattle.roundtrip.proofs.HeldFine.{accepted-fine}
use Rattle.roundtrip.proofs.AcceptedPassed.{accepted-judged}

-- COUNT, BIG and ROOM are all that is left
size-or-back : (d : Described) (room : ℕ) → ((once : List ℕ) → written_again d room ≡ pass once → ReadsBack once d) → WrittenOrSize d (written_again d room)
unfolding written_again
size-or-back d room = by (leb (last_end (placed d) (map length (blobs d))) end_limit) (leb (length (manifest_bytes d (placed d))) manifest_limit) (leb (length (plain_file d)) room)
  where
    by : (a b c : Bool) → ((once : List ℕ) → (COUNT unless a >> (BIG unless b >> (ROOM unless c >> pass (plain_file d)))) ≡ pass once → ReadsBack once d)
        → WrittenOrSize d (COUNT unless a >> (BIG unless b >> (ROOM unless c >> pass (plain_file d))))
    by true true true h = reads-back (h (plain_file d) refl)
    by true true false h = no_room
    by true false c h = too-big
    by false b c h = too_far

module _ (L : Layout) (framing : Framing L) (file : List ℕ) (r : Reading) (accepts : reading L file ≡ pass r) (R : List ℕ) where
  pub rows-sound : sound_again file r.model R
  rows-sound = rows-laws.rows-sound file r.model R (accepted-spelled L framing file r accepts)

  pub rows-described : described_again file r.model R ≡ described_by file r.model
  rows-described = rows-laws.rows-described file r.model R (accepted-spelled L framing file r accepts)

  module _ (held : Held file) (room : ℕ) where
    abbrev says : Described
    says = described_by file r.model

    pub written-again : rewritten file r.model R room ≡ written_again says room
    unfolding written_again plain_file
    written-again =
        rows-laws.written-again file r.model R room (accepted-spelled L framing file r accepts)
        ∙ written-plain-is says room (accepted-fine L framing held r accepts)
        ∙ rw (accepted-judged L framing file r accepts) refl

    -- and what was written once more is read as what the first file said
    pub again-reads-back : (once : List ℕ) → rewritten file r.model R room ≡ pass once → ReadsBack once says
    again-reads-back once e =
        written-plain-reads-back says room (accepted-fine L framing held r accepts) once
        (sym (rows-laws.written-again file r.model R room (accepted-spelled L framing file r accepts)) ∙ e)

    -- an accepted file of either layout, imported
    pub imported : WrittenOrSize says (rewritten file r.model R room)
    imported = subst (WrittenOrSize says) (sym written-again) (size-or-back says room λ once e. again-reads-back once (written-again ∙ e))

-- the same, in the numbers that a caller holds
pub imported-table : (L : Layout) → Framing L → (file table : List ℕ) → Held file → (r : Reading) → read_into L file (length table) ≡ pass r → (room : ℕ)
    → WrittenOrSize (described_by file r.model) (written_then L file table room)
unfolding answer table_after
imported-table L framing file table held r reads room =
    rw reads (imported L framing file r (read-accepts L file (length table) r reads) (drop (room_for r.model) table) held room)

-- a file that our writer wrote, read and written once more, is the same file
pub written_twice : (d : Described) (room : ℕ) (file R : List ℕ) (back : ReadsBack file d) → written_plain d room ≡ pass file
    → rewritten file back.read.model R room ≡ pass file
written_twice d room file R back e = rows-laws.written_twice d room file R back e (accepted-spelled current current-framing file back.read back.is)
