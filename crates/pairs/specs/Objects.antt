-- An object by the place of its row and of its components' rows.
use Rattle.std.specs.Prelude.{ℕ, ◌+◌, ◌*◌, ◌≤◌, List, ◌++◌, ◌||◌, ◌≡◌, length, drop, get_or}
use Rattle.meaning.specs.Columns.{component_width, count_column}
use Rattle.meaning.specs.Limit.{component_limit}
use Rattle.meaning.specs.Asked.{asked_object}
use Rattle.meaning.specs.Described.{DescribedComponent, DescribedObject, described_object}
use Rattle.rows.specs.Placed.{components_at}
use Rattle.put.specs.Wrote.{Wrote}
use Rattle.changes.specs.Changes.{flat, bit, lone, shared, other_dtype, other_type, other_bytes}
use Rattle.differing.specs.Rows.{Ranked}
use Rattle.parts.specs.declared.Seen.{Seen}
use Rattle.parts.specs.Seen.{firsts_from, seconds_from}

abbrev pub count_at : List ℕ → ℕ → ℕ
count_at table row = get_or table (row + count_column) 0

-- with as many components as its row counts
unfoldable pub object_at : List ℕ → List ℕ → ℕ → ℕ → DescribedObject
object_at file table row first = described_object file (asked_object (drop row table)) (components_at (count_at table row) first table)

-- the row lies in the table, so do those of its components, and rank and count are within their limits
pub record Sized (table : List ℕ) (row first : ℕ) : Type 0 where
  pub own : Ranked table row
  pub few : count_at table row ≤ component_limit
  pub parts : first + component_width * count_at table row ≤ length table

-- the components of both: the 4s and 5s, then the 6s, and what of them differs
pub record BothSeen (cs ds : List DescribedComponent) (i j at : ℕ) (xs ys : List ℕ) (r : Seen) : Type 0 where
  pub wrote : Wrote (flat (firsts_from i j ds 0 cs) ++ flat (seconds_from i j cs 0 ds)) at xs ys r.at
  pub names : r.names ≡ bit 4 (lone cs ds || lone ds cs)
  pub dtypes : r.dtypes ≡ bit 8 (shared other_dtype cs ds)
  pub kinds : r.kinds ≡ bit 16 (shared other_type cs ds)
  pub bytes : r.bytes ≡ bit 32 (shared other_bytes cs ds)
