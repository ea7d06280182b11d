-- Where an item stands in the bytes that were read.
use Rattle.std.specs.Prelude.{List, ◌++◌, ◌≡◌, ℕ}
use Rattle.meaning.specs.Tree.{Node}
use Rattle.meaning.specs.Read.{got, item, no_note}
use Rattle.meaning.specs.Limit.{depth_limit}
use Rattle.walk.specs.Reading.{Ends}
use Rattle.explained.specs.Step.{Step}
use Rattle.explained.specs.Notes.{map_step}

-- the bytes m end with s
pub record Tail (m s : List ℕ) : Type 0 where
  pub front : List ℕ
  pub split : m ≡ front ++ s

-- an item is passed over from s to r, where as many levels are left as a manifest has
pub record Passed (s r : List ℕ) : Type 0 where
  pub tree : Node (Unit {0})
  pub is : item no_note depth_limit s ≡ got tree r

-- both ends of an item in the bytes m
pub record Met (m : List ℕ) : Type 0 where
  pub at : Ends
  pub tail : Tail m at.start
  pub passed : Passed at.start at.rest

abbrev pub met : (m : List ℕ) → Met m → Ends
met m p = p.at

-- a check that looks at such items only
pub record StandsIn (m : List ℕ) (s : Step Ends) : Type 0 where
  pub it : Step (Met m)
  pub is : s ≡ map_step (met m) it
