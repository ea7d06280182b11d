-- What any lent slice is: its numbers have 64 bits, or are bytes, and there are fewer than 2 ^ 64 of them. The writer's contract gives it of the rows and the buffer.
use Rattle.std.specs.Prelude.{List, ℕ}
use Rattle.meaning.specs.Encoding.{Bytes}
use Rattle.meaning.specs.Every.{Every}
use Rattle.readback.specs.Fine.{Fits, Brief}

-- rows, and the buffer that they point into
pub record Lent (rows buffer : List ℕ) : Type 0 where
  pub numbers : Every Fits rows
  pub few : Brief rows
  pub small : Brief buffer

-- a file
pub record Held (file : List ℕ) : Type 0 where
  pub bytes : Bytes file
  pub brief : Brief file
