-- Request 08: why a file was refused.
use Rattle.std.specs.Prelude.{ℕ, ◌+◌, ◌-◌, List, [], ◌∷◌, false, ◌&&◌, length, take, drop, leb}
use Rattle.std.proofs.Math.Option.{Option, none, some}
use Rattle.meaning.specs.Check.{Check, pass, refuse}
use Rattle.meaning.specs.Tree.{Node}
use Rattle.meaning.specs.Text.{same}
use Rattle.meaning.specs.Refusal.{SHORT, HEADER, FOOTER, BIG, FIT, ROOM}
use Rattle.meaning.specs.Limit.{manifest_limit}
use Rattle.meaning.specs.Read.{Span, span_to, Outcome, got, refused, manifest}
use Rattle.meaning.specs.Layouts.{Layout, magic}
use Rattle.meaning.specs.Frame.{little, Frame, frame, checked, Reading, reading}
use Rattle.meaning.specs.Rows.{optional_span, room_for}
use Rattle.explained.specs.Step.{Step, ◌at◌unless◌, ◌>>=◌, ◌>>◌, given, first}
use Rattle.explained.specs.Order.{manifest_steps}

abbrev pub span : ℕ → ℕ → Span
span p s = record { place = p; size = s }

-- a check that breaks, before any object is looked at
abbrev pub alone : ℕ → Span → Step Span
alone n w = record { number = n; object = 0; component = 0; object_name = none; component_name = none; place = w; right = false }

-- 1: the file; 2: the first eight bytes; 3: the footer's, the last eight; 4, 5: the size's eight
unfoldable pub frame_steps : Layout → List ℕ → List (Step Span)
frame_steps L file = do
  let n = length file
  SHORT at span 0 n unless leb L.least n
  HEADER at span 0 8 unless same magic (take 8 file)
  FOOTER at span (n - length L.footer) (length L.footer) unless same L.footer (drop (n - length L.footer) file)
  let size = little (take 8 (drop (n - L.size_back) file))
  BIG at span (n - L.size_back) 8 unless leb size manifest_limit
  FIT at span (n - L.size_back) 8 unless (leb 1 size && leb size (n - L.least))

-- the first byte of a head where these bytes are left before `end`; none where none is left
unfoldable pub head_span : ℕ → List ℕ → Span
head_span end [] = span end 0
head_span end (b ∷ s) = span (end - length (b ∷ s)) 1

-- 6 and 7
unfoldable pub read_steps : {A : Type 0} → ℕ → Outcome A → List (Step Span)
read_steps end (got a s) = []
read_steps end (refused n s) = n at head_span end s unless false

-- the item that fills the manifest
unfoldable pub root : List ℕ → Frame → Outcome (Node Span)
root file f = manifest (span_to (f.start + f.size)) (take f.size (drop f.start file))

unfoldable pub file_steps : Layout → List ℕ → List (Step Span)
file_steps L file = do
  frame_steps L file
  f ← given (frame L file)
  read_steps (f.start + f.size) (root file f)
  t ← given (checked (root file f))
  manifest_steps L f.start t

unfoldable pub room_steps : Layout → ℕ → List ℕ → List (Step Span)
room_steps L room file = do
  file_steps L file
  r ← given (reading L file)
  ROOM at span 0 0 unless leb (room_for r.model) room

pub record Explanation : Type 0 where
  pub number : ℕ
  pub object : ℕ
  pub component : ℕ
  pub object_name : Span
  pub component_name : Span
  pub place : Span
  -- with ROOM: the numbers that are needed
  pub room : ℕ

unfoldable pub explanation : Option (Step Span) → ℕ → Explanation
explanation none room =
    record { number = 0; object = 0; component = 0; object_name = span 0 0; component_name = span 0 0; place = span 0 0; room = 0 }
explanation (some s) room = record {
  number = s.number;
  object = s.object;
  component = s.component;
  object_name = optional_span s.object_name;
  component_name = optional_span s.component_name;
  place = s.place;
  room = room;
}

unfoldable pub needed_by : Check Reading → ℕ
needed_by (pass r) = room_for r.model
needed_by (refuse n o c) = 0

-- of a file read into a table of so many numbers
unfoldable pub explain : Layout → List ℕ → ℕ → Explanation
explain L file room = explanation (first (room_steps L room file)) (needed_by (reading L file))
