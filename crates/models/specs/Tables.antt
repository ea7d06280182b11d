-- The objects of a table by their numbers, and what is known of a table that was read.
use Rattle.std.specs.Prelude.{ℕ, zero, suc, ◌+◌, ◌*◌, ◌≤◌, ◌<◌, List, [], ◌∷◌, ◌++◌, ◌≡◌, length, get_or, Option, MatchOption}
use Rattle.std.proofs.Math.Option.{none, some}
use Rattle.meaning.specs.Columns.{object_width, component_width}
use Rattle.meaning.specs.Limit.{object_limit}
use Rattle.meaning.specs.Described.{DescribedObject}
use Rattle.changes.specs.Changes.{Entry, entry, across, object, of_object, if_absent}
use Rattle.pairs.specs.Objects.{object_at, count_at, Sized}

-- where the components' rows of the object j begin, of n objects
unfoldable pub start_of : List ℕ → ℕ → ℕ → ℕ
start_of table n zero = object_width * n
start_of table n (suc j) = start_of table n j + component_width * count_at table (object_width * j)

abbrev pub object_of : List ℕ → List ℕ → ℕ → ℕ → DescribedObject
object_of file table n j = object_at file table (object_width * j) (start_of table n j)

-- k of them, from the object j on
unfoldable pub objects_from : List ℕ → List ℕ → ℕ → ℕ → ℕ → List DescribedObject
objects_from file table n j zero = []
objects_from file table n j (suc k) = object_of file table n j ∷ objects_from file table n (suc j) k

-- n objects' rows lie in the table, and each with its components
pub record Table (table : List ℕ) (n : ℕ) : Type 0 where
  pub few : n ≤ object_limit
  pub lie : object_width * n ≤ length table
  pub each : (j : ℕ) → j < n → Sized table (object_width * j) (start_of table n j)

-- the array says where
pub record Starts (table : List ℕ) (n : ℕ) (starts : List ℕ) : Type 0 where
  pub long : n ≤ length starts
  pub is : (j : ℕ) → j < n → get_or starts j 0 ≡ start_of table n j

-- the number of the object of this name among the n, if there is one
abbrev pub Beside : List ℕ → List ℕ → List ℕ → ℕ → Option ℕ → Type 0
Beside name file table n o =
    MatchOption o (object name (objects_from file table n 0 n) ≡ none)
    (λ r. (r < n) × (object name (objects_from file table n 0 n) ≡ some (record { index = r; it = object_of file table n r })))

-- all but the 2s, from the object i on, beside the second's; the 2s, from the object j on, beside the first's
abbrev pub olds_from : List DescribedObject → ℕ → List DescribedObject → List Entry
olds_from ps i os = across (λ x o. of_object (i + x) o (object o.name ps)) os

abbrev pub news_from : List DescribedObject → ℕ → List DescribedObject → List Entry
news_from os j ps = across (λ x p. if_absent (entry 2 0 (j + x) 0 0 0 0 0) (object p.name os)) ps

abbrev pub changes_of : List DescribedObject → List DescribedObject → List Entry
changes_of os ps = olds_from ps 0 os ++ news_from os 0 ps
