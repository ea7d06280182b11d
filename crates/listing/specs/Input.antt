-- How a file was read into a lent space: the bytes that are taken for the file's stand at its beginning, and where a read failed there are none.
use Rattle.std.specs.Prelude.{ℕ, List, Result, Ok, Err}
use Rattle.listing.specs.Output.{IsPrefixLen}

module _ {E : Type 0} where
  abbrev pub Within : Result ℕ E → List ℕ → Type 0
  Within (Err e) space = Unit {0}
  Within (Ok n) space = IsPrefixLen n space
