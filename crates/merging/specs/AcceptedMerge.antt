-- What an accepted merge has behind it.
use Rattle.std.specs.Prelude.{ℕ, List, ◌≡◌, length}
use Rattle.meaning.specs.Check.{pass}
use Rattle.meaning.specs.Layouts.{Layout}
use Rattle.meaning.specs.Frame.{Reading, reading}
use Rattle.meaning.specs.Described.{Described, described_by}
use Rattle.meaning.specs.Write.{written_plain}
use Rattle.shown.specs.Accepted.{Framing}
use Rattle.roundtrip.specs.Again.{plain_file}
use Rattle.merging.specs.Merge.{merged}

-- a file of layout L is accepted, and what was read describes d
pub record Says (L : Layout) (file : List ℕ) (d : Described) : Type 0 where
  pub framing : Framing L
  pub read : Reading
  pub is : reading L file ≡ pass read
  pub back : described_by file read.model ≡ d

-- both files are accepted, and the writer writes what they say together
pub record Merging (L : Layout) (first : List ℕ) (M : Layout) (second file : List ℕ) : Type 0 where
  pub a : Described
  pub b : Described
  pub first_says : Says L first a
  pub second-says : Says M second b
  pub wrote : written_plain (merged a b) (length (plain_file (merged a b))) ≡ pass file
