-- The entries of a map of names that pass: each has a name, and what it names passes the check f.
use Rattle.std.specs.Prelude.{ℕ, List, ◌≡◌}
use Rattle.meaning.specs.Tree.{Pair}
use Rattle.meaning.specs.Check.{Check, pass, each}
use Rattle.meaning.specs.Model.{Named}
use Rattle.meaning.specs.Field.{name_of}
use Rattle.walk.specs.Reading.{Ends}

pub record Entered {B : Type 0} (f : ℕ → Named Ends → Check B) (done : List (Pair Ends)) (bs : List B) : Type 0 where
  pub named : List (Named Ends)
  pub names-are : each (λ i. name_of) 0 done ≡ pass named
  pub are : each f 0 named ≡ pass bs
