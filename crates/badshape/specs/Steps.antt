-- For every shape that is read at s: the first check that breaks. A shape stands where 29 levels are left.
use Rattle.std.specs.Prelude.{ℕ, List, ◌≡◌}
use Rattle.meaning.specs.Tree.{Node}
use Rattle.walk.specs.Reading.{Ends, Reads}
use Rattle.explained.specs.Step.{first}
use Rattle.explained.specs.Order.{shape_steps}
use Rattle.spot.specs.Shown.{shown}
use Rattle.spot.specs.Shown.{Spot}

abbrev pub ShapeIs : List ℕ → Spot → Type 0
ShapeIs s r = (t : Node Ends) (q : List ℕ) → Reads 29 s t q → r ≡ shown (first (shape_steps t))
