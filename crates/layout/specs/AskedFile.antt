-- The file that rows and a buffer ask for, with its blobs where the plan says, or the rule where the plan is empty; the root's attributes stand at `place`.
use Rattle.std.specs.Prelude.{ℕ, List, map, length}
use Rattle.meaning.specs.Asked.{asked}
use Rattle.meaning.specs.Described.{Described, blobs, described}
use Rattle.meaning.specs.WrittenFile.{file_of}
use Rattle.meaning.specs.Read.{Span}
use Rattle.rows.specs.Turns.{begun, reached, offsets_from}

abbrev pub root_attributes : ℕ → ℕ → Span
root_attributes place size = record { place = place; size = size }

module _ (buffer plan rows : List ℕ) (objects components place size : ℕ) where
  abbrev pub asks_for : Described
  asks_for = described buffer (asked rows objects components (root_attributes place size))

  abbrev pub lengths : List ℕ
  lengths = map length (blobs asks_for)

  abbrev pub asked_file : List ℕ
  asked_file = file_of asks_for (offsets_from plan (begun plan) lengths)

  -- the turn after the last blob
  abbrev pub last_turn : ℕ
  last_turn = reached plan (begun plan) lengths
