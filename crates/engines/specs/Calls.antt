-- Document 02, Req 11: the calls of an engine. What each answers, and what the shared numbers are afterwards, for every list of numbers.
use Rattle.std.specs.Prelude.{ℕ, ◌-◌, List, [], ◌∷◌, ◌++◌, cond, not, length, take, drop, replicate, eqb, leb}
use Rattle.meaning.specs.Check.{Check, pass, refuse, ◌>>=◌, ◌>>◌, ◌unless◌}
use Rattle.meaning.specs.Refusal.{INDEX, ROOM, BUSY}
use Rattle.meaning.specs.Read.{Span}
use Rattle.meaning.specs.Frame.{Reading, reading}
use Rattle.meaning.specs.Layouts.{layout_of}
use Rattle.meaning.specs.Rows.{rows, room_for, component_count, attributes_span}
use Rattle.meaning.specs.View.{viewed}
use Rattle.panel.specs.Lines.{listed}
use Rattle.engines.specs.Shared.{Who, first, second, who_of, Engine, flag_of, held_of, objects_of, components_of, nothing, Shared, own, closed, opened}

pub data Call : Type 0 where
  -- layout and file
  load : ℕ → List ℕ → Call
  drops : Call
  holds : Call
  -- file and index
  view : List ℕ → ℕ → Call
  -- file and the lent text's length
  list : List ℕ → ℕ → Call

pub data Said : Type 0 where
  took : Reading → Said
  gone : Said
  -- place, numbers, objects, components, start, attributes' place and length
  has : List ℕ → Said
  range : Span → Said
  text : List ℕ → Said

-- a file of the layout that a number names
unfoldable pub reading_as : ℕ → List ℕ → Check Reading
reading_as layout file = reading (layout_of layout) file

-- as it was given: 1, or else 0
unfoldable pub layout_number : ℕ → ℕ
layout_number layout = cond (eqb layout 1) 1 0

-- numbers that a file's rows need
abbrev pub needed : Reading → ℕ
needed r = room_for r.model

unfoldable pub engine_of : ℕ → Reading → Engine
engine_of layout r = record {
  state =
      1 ∷ needed r ∷ length r.model.objects ∷ component_count r.model.objects ∷ r.start ∷ (attributes_span r.model.attributes).place
      ∷ (attributes_span r.model.attributes).size ∷ layout_number layout ∷ [];
  rows = rows r.model;
}

-- BUSY before the file is looked at, then the reader's refusal, then ROOM: an engine with so many free numbers
unfoldable pub loading : Engine → ℕ → ℕ → List ℕ → Check Reading
loading a free layout file = do
  BUSY unless eqb (flag_of a.state) 0
  r ← reading_as layout file
  ROOM unless leb (needed r) free
  pass r

-- where the rows stand
unfoldable pub place_of : ℕ → Who → Engine → ℕ
place_of size first a = 0
place_of size second a = size - held_of a.state

unfoldable pub holding : ℕ → Who → Engine → List ℕ
holding size w a = cond (eqb (flag_of a.state) 0) (replicate 7 0) (place_of size w a ∷ take 6 (drop 1 a.state))

-- what an engine is told, from what it has and how many numbers are free
unfoldable pub told : ℕ → Who → Engine → ℕ → Call → Check Said
told size w a free (load layout file) = loading a free layout file >>= λ r. pass (took r)
told size w a free drops = pass gone
told size w a free holds = pass (has (holding size w a))
told size w a free (view file index) = do
  INDEX unless not (eqb (flag_of a.state) 0)
  s ← viewed file a.rows (objects_of a.state) (components_of a.state) index
  pass (range s)
told size w a free (list file room) = do
  INDEX unless not (eqb (flag_of a.state) 0)
  t ← listed file a.rows (objects_of a.state) (components_of a.state)
  ROOM unless leb (length t) room
  pass (text t)

-- the rows go next to the table's end that is the engine's
unfoldable pub taken : Who → ℕ → Check Reading → Shared → Shared
taken w layout (refuse n o c) s = s
taken first layout (pass r) s = record { front = engine_of layout r; free = drop (needed r) s.free; back = s.back }
taken second layout (pass r) s = record { front = s.front; free = take (length s.free - needed r) s.free; back = engine_of layout r }

-- zeros where the rows stood
unfoldable pub given : Who → Shared → Shared
given first s = record { front = nothing; free = replicate (length s.front.rows) 0 ++ s.free; back = s.back }
given second s = record { front = s.front; free = s.free ++ replicate (length s.back.rows) 0; back = nothing }

unfoldable pub after : Who → Call → Shared → Shared
after w (load layout file) s = taken w layout (loading (own w s) (length s.free) layout file) s
after w drops s = given w s
after w holds s = s
after w (view file index) s = s
after w (list file room) s = s

-- ---- the same of a list of numbers and an engine's number

module _ (size : ℕ) where
  unfoldable pub answered : ℕ → Call → List ℕ → Check Said
  answered engine c l = do
    w ← who_of engine
    s ← opened size l
    told size w (own w s) (length s.free) c

  abbrev pub closed_after : Call → List ℕ → Check Who → Check Shared → List ℕ
  closed_after c l (pass w) (pass s) = closed (after w c s)
  closed_after c l (pass w) (refuse n o k) = l
  closed_after c l (refuse n o k) x = l

  unfoldable pub leaves : ℕ → Call → List ℕ → List ℕ
  leaves engine c l = closed_after c l (who_of engine) (opened size l)
