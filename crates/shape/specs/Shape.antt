-- What is answered of an object's shape.
use Rattle.std.specs.Prelude.{ℕ, suc, ◌≤◌, List, ◌≡◌, length, get_or, take, Ok, Err, Result}
use Rattle.meaning.specs.Tree.{Node}
use Rattle.meaning.specs.Check.{Check, pass, fault}
use Rattle.meaning.specs.Limit.{rank_limit}
use Rattle.meaning.specs.Judge.{shape_of}
use Rattle.walk.specs.Reading.{Ends, Reads}
use Rattle.numbers.specs.Numbered.{number_of}
use Rattle.numbers.specs.declared.refusal.Refusal.{Refusal}

abbrev pub ShapeIs : List ℕ → Result ℕ Refusal → Check (List ℕ) → Type 0
ShapeIs dims (Err r) c = c ≡ fault (number_of r)
ShapeIs dims (Ok rank) c = (c ≡ pass (take rank dims)) × (rank ≤ rank_limit)

-- of whatever is read at s, its elements where d levels are left; the dimensions were put over `before`, and none beyond them
pub record ShapeRead (d : ℕ) (s before dims : List ℕ) (answer : Result ℕ Refusal) : Type 0 where
  pub room : length dims ≡ rank_limit
  pub others : (rank : ℕ) → answer ≡ Ok rank → (j : ℕ) → rank ≤ j → get_or dims j 0 ≡ get_or before j 0
  pub trees : (t : Node Ends) (r : List ℕ) → Reads (suc d) s t r → ShapeIs dims answer (shape_of t)
