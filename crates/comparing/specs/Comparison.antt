-- Request 07 of document 02: what comparing two files answers. The first file's refusal comes first, then the second's, then ROOM: for the rows of both together, and for the list.
use Rattle.std.specs.Prelude.{ℕ, ◌+◌, ◌/◌, List, ◌++◌, cond, length, drop, leb}
use Rattle.meaning.specs.Check.{Check, pass, refuse}
use Rattle.meaning.specs.Refusal.{ROOM}
use Rattle.meaning.specs.Layouts.{Layout}
use Rattle.meaning.specs.Frame.{Reading, reading}
use Rattle.meaning.specs.Rows.{room_for}
use Rattle.meaning.specs.Described.{described_by}
use Rattle.changes.specs.Changes.{change_numbers, flat}
use Rattle.models.specs.Tables.{objects_from, changes_of}
use Rattle.comparing.specs.declared.Changes.{Changes}

-- a refusal with its file, or the numbers of the list
pub data Compared : Type 0 where
  refused : ℕ → ℕ → ℕ → ℕ → Compared
  listed : List ℕ → Compared

abbrev pub no_room : ℕ → Changes
no_room entries = record { number = ROOM; file = 0; object = 0; component = 0; entries = entries }

module _ (first second : List ℕ) (work : ℕ) where
  unfoldable pub compared_by : Check Reading → Check Reading → Compared
  compared_by (refuse n o c) s = refused n 1 o c
  compared_by (pass r) (refuse n o c) = refused n 2 o c
  compared_by (pass r) (pass s) =
      cond (leb (room_for r.model + room_for s.model) work) (listed (change_numbers (described_by first r.model) (described_by second s.model))) (refused ROOM 0 0 0)

-- two files, each of its layout, with so much room
unfoldable pub compared : Layout → List ℕ → Layout → List ℕ → ℕ → Compared
compared L first M second work = compared_by first second work (reading L first) (reading M second)

-- eight numbers an entry; how many there are is told also where the list has no room for them
unfoldable pub fitting : List ℕ → ℕ → Changes
fitting ns room = cond (leb (length ns) room) (record { number = 0; file = 0; object = 0; component = 0; entries = length ns / 8 }) (no_room (length ns / 8))

unfoldable pub told : Compared → ℕ → Changes
told (refused n file o c) room = record { number = n; file = file; object = o; component = c; entries = 0 }
told (listed ns) room = fitting ns room

-- untouched unless the answer is 0, and beyond the entries
unfoldable pub list_after : List ℕ → List ℕ → List ℕ
list_after ns list = cond (leb (length ns) (length list)) (ns ++ drop (length ns) list) list

unfoldable pub after : Compared → List ℕ → List ℕ
after (refused n file o c) list = list
after (listed ns) list = list_after ns list

-- by tables of m and n objects
abbrev pub numbers_of : List ℕ → List ℕ → ℕ → List ℕ → List ℕ → ℕ → List ℕ
numbers_of first a m second b n = flat (changes_of (objects_from first a m 0 m) (objects_from second b n 0 n))

-- both files accepted leaves the room
abbrev pub refused_by : Check Reading → Check Reading → Changes
refused_by (refuse n o c) s = record { number = n; file = 1; object = o; component = c; entries = 0 }
refused_by (pass r) (refuse n o c) = record { number = n; file = 2; object = o; component = c; entries = 0 }
refused_by (pass r) (pass s) = no_room 0
