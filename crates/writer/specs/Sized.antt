-- What is known of rows once all is judged that comes before the reader's refusal.
use Rattle.std.specs.Prelude.{ℕ, ◌+◌, ◌≤◌, List, map, true, ◌≡◌, length, leb, Ok, Err, Result}
use Rattle.meaning.specs.Refusal.{ROOM}
use Rattle.meaning.specs.Check.{Check, pass, refuse, ◌>>◌, ◌unless◌}
use Rattle.meaning.specs.Limit.{manifest_limit, end_limit}
use Rattle.meaning.specs.Read.{Span}
use Rattle.meaning.specs.Asked.{asked}
use Rattle.meaning.specs.Described.{Described, blobs, described}
use Rattle.meaning.specs.Sound.{rows_sound}
use Rattle.meaning.specs.WrittenFile.{file_of}
use Rattle.meaning.specs.Write.{written_at}
use Rattle.rows.specs.Turns.{begun, turn_limit, reached, offsets_from}
use Rattle.readback.specs.Judged.{judged}
use Rattle.writer.specs.declared.Sized.{Sized}
use Rattle.numbers.specs.declared.fault.FileFault.{FileFault}
use Rattle.numbers.specs.Numbered.{number_of}

-- by a plan, or by the rule where it is empty
module _ (plan rows : List ℕ) (objects components : ℕ) (attributes : Span) (buffer : List ℕ) where
  abbrev pub of_rows : Described
  of_rows = described buffer (asked rows objects components attributes)

  abbrev pub lengths_of : List ℕ
  lengths_of = map length (blobs of_rows)

  abbrev pub offsets_of : List ℕ
  offsets_of = offsets_from plan (begun plan) lengths_of

  -- what is answered for an output of so many bytes, once the offsets are settled
  abbrev pub file_at : ℕ → Check (List ℕ)
  file_at room = written_at of_rows offsets_of room

  abbrev pub file : List ℕ
  file = file_of of_rows offsets_of

  -- where the last blob ends, and how long the manifest is, both within their limits
  pub record Fit (end manifest : ℕ) : Type 0 where
    pub sound : rows_sound buffer rows objects components attributes ≡ true
    pub turns : reached plan (begun plan) lengths_of ≤ turn_limit plan
    pub end_low : end ≤ end_limit
    pub manifest-low : manifest ≤ manifest_limit
    pub long : length file ≡ end + manifest + 16
    pub is : (room : ℕ) → file_at room ≡ (judged of_rows >> ((ROOM unless leb (length file) room) >> pass file))

  -- of the whole answer, by the output's length
  abbrev pub Measures : (ℕ → Check (List ℕ)) → Result Sized FileFault → Type 0
  Measures answer (Err f) = (room : ℕ) → answer room ≡ refuse (number_of f.refusal) f.object f.component
  Measures answer (Ok v) = Fit v.end v.manifest × ((room : ℕ) → answer room ≡ file_at room)
