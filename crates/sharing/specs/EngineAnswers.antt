-- What the code answers, as a function of what the calls' definitions say; and what a load lays.
use Rattle.std.specs.Prelude.{ℕ, zero, suc, ◌+◌, ◌-◌, ◌*◌, List, [], ◌∷◌, ◌++◌, length, drop, get_or}
use Rattle.std.proofs.lemmas.List.Edits.{sets}
use Rattle.meaning.specs.Check.{Check, pass, refuse}
use Rattle.meaning.specs.Frame.{Reading}
use Rattle.meaning.specs.Columns.{object_width, component_width}
use Rattle.meaning.specs.Rows.{rows}
use Rattle.view.specs.declared.Extent.{Extent}
use Rattle.panel.specs.declared.Listed.{Listed}
use Rattle.engines.specs.Calls.{Said, took, gone, has, range, text, needed, layout_number}
use Rattle.reader.specs.Answer as read
use Rattle.reader.specs.declared.into.Answer.{Answer}
use Rattle.sharing.specs.declared.Held.{Held}

-- ---- answers. Each call says one thing; of another an answer has nothing to tell

unfoldable pub number : Check Said → ℕ
number (pass a) = 0
number (refuse n o c) = n

unfoldable pub answer : Check Said → Answer
answer (refuse n o c) = read.refused n o c
answer (pass (took r)) = read.answered (pass r)
answer (pass gone) = read.refused 0 0 0
answer (pass (has l)) = read.refused 0 0 0
answer (pass (range s)) = read.refused 0 0 0
answer (pass (text t)) = read.refused 0 0 0

-- place, numbers, objects, components, start, attributes' place and length
unfoldable pub held_with : ℕ → List ℕ → Held
held_with n l = record {
  number = n;
  place = get_or l 0 0;
  numbers = get_or l 1 0;
  objects = get_or l 2 0;
  components = get_or l 3 0;
  start = get_or l 4 0;
  attributes = get_or l 5 0;
  length = get_or l 6 0;
}

unfoldable pub held : Check Said → Held
held (refuse n o c) = held_with n []
held (pass (has l)) = held_with 0 l
held (pass (took r)) = held_with 0 []
held (pass gone) = held_with 0 []
held (pass (range s)) = held_with 0 []
held (pass (text t)) = held_with 0 []

abbrev no_extent : ℕ → Extent
no_extent n = record { number = n; offset = 0; length = 0 }

unfoldable pub extent : Check Said → Extent
extent (refuse n o c) = no_extent n
extent (pass (range s)) = record { number = 0; offset = s.place; length = s.size }
extent (pass (took r)) = no_extent 0
extent (pass gone) = no_extent 0
extent (pass (has l)) = no_extent 0
extent (pass (text t)) = no_extent 0

unfoldable pub listing : Check Said → List ℕ
listing (refuse n o c) = []
listing (pass (text t)) = t
listing (pass (took r)) = []
listing (pass gone) = []
listing (pass (has l)) = []
listing (pass (range s)) = []

unfoldable pub listed : Check Said → Listed
listed k = record { number = number k; length = length (listing k) }

-- the lent text is untouched where nothing is listed, and beyond the listing
unfoldable pub text_after : Check Said → List ℕ → List ℕ
text_after k t = listing k ++ drop (length (listing k)) t

-- ---- what a load lays

-- where an engine's rows of so many numbers stand
unfoldable pub rows_at : ℕ → ℕ → ℕ → ℕ
rows_at size zero needs = 0
rows_at size (suc engine) needs = size - needs

-- the numbers with the rows of a file that is read laid there
unfoldable pub laid : ℕ → ℕ → List ℕ → Check Reading → List ℕ
laid size engine l (refuse n o c) = l
laid size engine l (pass r) = sets l (rows_at size engine (needed r)) (rows r.model)

-- a loaded engine's state, from what reading answered
unfoldable pub state_with : ℕ → ℕ → ℕ → ℕ → ℕ → ℕ → List ℕ
state_with layout objects components start place size = 1 ∷ (object_width * objects + component_width * components) ∷ objects ∷ components ∷ start ∷ place ∷ size ∷ layout_number layout ∷ []
