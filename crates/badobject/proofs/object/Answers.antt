-- `badobject::object` meets its contract: a law for each branch.
use Rattle.walk.proofs.Opens as opens
use Rattle.badobject.proofs.Whole as whole
use Rattle.spot.proofs.Told.{odd, sound, told-as}
use Rattle.badobject.proofs.object.Goals as goal

pub slice_bounds-first-count : goal.slice_bounds-first-count
slice_bounds-first-count c = search opens.size-inside

pub slice_bounds-first-start : goal.slice_bounds-first-start
slice_bounds-first-start c = search opens.size-inside

pub first-known-requires : goal.first-known-requires
first-known-requires c = search (whole.eight-places, opens.modes)

pub returns-in-Err : goal.returns-in-Err
returns-in-Err c = let o = odd c.in-Err.is in let s = told-as c.in-Err.is in search (whole.stops, o, s)

pub returns-then-lacks : goal.returns-then-lacks
returns-then-lacks c = let z = sound c.in-Ok.is in search (whole.lacks-one, z)

pub slice_bounds-values-count : goal.slice_bounds-values-count
slice_bounds-values-count c = search opens.size-inside

pub slice_bounds-values-start : goal.slice_bounds-values-start
slice_bounds-values-start c = search opens.size-inside

pub returns-in-None : goal.returns-in-None
returns-in-None c = search whole.not-map

pub returns-else-lacks : goal.returns-else-lacks
returns-else-lacks c = let z = sound c.in-Ok.is in search (whole.has_all, z)
