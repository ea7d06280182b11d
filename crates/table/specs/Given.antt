-- What an object gives to its components, and an entry judged with it.
use Rattle.std.specs.Prelude.{ℕ, ◌<◌, List, ◌≡◌}
use Rattle.std.proofs.Math.Option.{Option}
use Rattle.meaning.specs.Check.{Check, in_component}
use Rattle.meaning.specs.Model.{Named, Component}
use Rattle.meaning.specs.Judge.{inherited, component}
use Rattle.meaning.specs.Layouts.{Layout}
use Rattle.types.specs.Known.{position, format_names}
use Rattle.walk.specs.Reading.{Ends}
use Rattle.component.specs.Value.{given}

-- the layout's number, the code of its format, and the code of its dtype, 13 or more for none
pub record Given : Type 0 where
  pub layout : ℕ
  pub format : ℕ
  pub code : ℕ

abbrev pub offered : ℕ → ℕ → ℕ → Given
offered layout format code = record { layout = layout; format = format; code = code }

-- for every format with that code; in layout 1.0 an object has a dtype
abbrev pub Whichever : Given → ((List ℕ → Option ℕ) → Type 0) → Type 0
Whichever g Q = (f : List ℕ) → g.format ≡ position format_names f → (g.layout ≡ 1 → g.code < 13) → Q (inherited f (given g.code))

-- an entry, with its index
unfoldable pub entry : Layout → (List ℕ → Option ℕ) → ℕ → ℕ → Named Ends → Check (Component Ends)
entry L above start j n = in_component j (component L start (above n.name.letters) n)
