-- What is told of the first check that breaks in a tree that is annotated with both ends of every item: its number, and how many bytes are left where it looks.
use Rattle.std.specs.Prelude.{ℕ, length, Result, Ok, Err}
use Rattle.std.proofs.Math.Option.{Option, none, some}
use Rattle.walk.specs.Reading.{Ends}
use Rattle.explained.specs.Step.{Step}
use Rattle.numbers.specs.Numbered.{number_of}
use Rattle.spot.specs.declared.Spot as code

-- a number, 0 for none
pub record Spot : Type 0 where
  pub number : ℕ
  pub left : ℕ

abbrev pub spot : ℕ → ℕ → Spot
spot n l = record { number = n; left = l }

unfoldable pub shown : Option (Step Ends) → Spot
shown none = spot 0 0
shown (some s) = spot s.number (length s.place.start)

-- what an answer of the code tells
abbrev pub looks : code.Spot → Spot
looks z = spot (number_of z.refusal) z.left

abbrev pub told : Result (Unit {0}) code.Spot → Spot
told (Ok a) = spot 0 0
told (Err z) = looks z
