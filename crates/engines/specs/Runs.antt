-- Document 02, Req 11: any calls of both engines, one after another.
use Rattle.std.specs.Prelude.{ℕ, List, [], ◌∷◌}
use Rattle.meaning.specs.Check.{Check}
use Rattle.engines.specs.Shared.{Who, first, second, held_of, other, part_of}
use Rattle.engines.specs.Calls.{Call, load, drops, holds, view, list, Said, answered, leaves}

pub record Turn : Type 0 where
  pub who : Who
  pub call : Call

abbrev pub number_of : Who → ℕ
number_of first = 0
number_of second = 1

-- of what a call is told one thing depends on the other engine: the numbers that it holds, and that only where a file is loaded
abbrev pub heard : Call → ℕ → ℕ
heard (load layout file) held = held
heard drops held = 0
heard holds held = 0
heard (view file index) held = 0
heard (list file room) held = 0

-- a call, and what it may hear of the other engine
pub record Heard : Type 0 where
  pub call : Call
  pub held : ℕ

-- put before the rest if the turn is this engine's
abbrev pub mine : {A : Type 0} → Who → Who → A → List A → List A
mine first first a r = a ∷ r
mine first second a r = r
mine second first a r = r
mine second second a r = a ∷ r

module _ (size : ℕ) where
  -- the numbers after all turns
  unfoldable pub final : List Turn → List ℕ → List ℕ
  final [] l = l
  final (t ∷ ts) l = final ts (leaves size (number_of t.who) t.call l)

  -- an engine's own calls, each with the numbers that the other then held if it loads a file
  unfoldable pub history : Who → List Turn → List ℕ → List Heard
  history w [] l = []
  history w (t ∷ ts) l =
      mine w t.who (record { call = t.call; held = heard t.call (held_of (part_of size (other w) l).state) })
      (history w ts (leaves size (number_of t.who) t.call l))

  -- what an engine is answered, call by call
  unfoldable pub replies : Who → List Turn → List ℕ → List (Check Said)
  replies w [] l = []
  replies w (t ∷ ts) l = mine w t.who (answered size (number_of t.who) t.call l) (replies w ts (leaves size (number_of t.who) t.call l))
