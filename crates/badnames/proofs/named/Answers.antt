-- `badnames::named` meets its contract: a law for each branch.
use Rattle.badnames.proofs.KeysNoted as noting
use Rattle.walk.proofs.Opens as opens
use native.Mathlib.Omega.{arith}
use Rattle.badnames.proofs.named.Goals as goal

pub slice_bounds-entries-count : goal.slice_bounds-entries-count
slice_bounds-entries-count c = search opens.size-inside

pub slice_bounds-entries-start : goal.slice_bounds-entries-start
slice_bounds-entries-start c = search opens.size-inside

pub entries-keys-requires : goal.entries-keys-requires
entries-keys-requires c = search opens.modes

pub judged-requires : goal.judged-requires
judged-requires c = (
  search opens.size-inside,
  omega (arith, c.entries-keys.ensures.0, c.requires.1),
  omega (arith, c.entries-keys.ensures.0, c.requires.2),
)

pub returns-in-None : goal.returns-in-None
returns-in-None c = search noting.no-map

pub returns-in-Some : goal.returns-in-Some
returns-in-Some c = search noting.of_map
