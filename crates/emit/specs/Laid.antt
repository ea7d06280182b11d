-- What a piece of writing leaves: its bytes at a place, all else as before, and the place past them.
use Rattle.std.specs.Prelude.{ℕ, ◌+◌, ◌≤◌, List, ◌++◌, ◌≡◌, length, take, drop}

-- the bytes bs fit into xs at a place
pub record Room (bs : List ℕ) (at : ℕ) (xs : List ℕ) : Type 0 where
  pub fits : at + length bs ≤ length xs

-- the bytes bs, laid at a place, take xs to ys; r is the place past them
pub record Laid (bs : List ℕ) (at : ℕ) (xs ys : List ℕ) (r : ℕ) : Type 0 where
  pub past : r ≡ at + length bs
  pub fits : at + length bs ≤ length xs
  pub is : ys ≡ take at xs ++ (bs ++ drop (at + length bs) xs)
