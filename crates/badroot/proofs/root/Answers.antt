-- `badroot::root` meets its contract: a law for each branch.
use Rattle.badroot.proofs.Roots as roots
use Rattle.walk.proofs.Opens as opens
use Rattle.spot.proofs.Told.{odd, sound, told-as}
use Rattle.badroot.proofs.root.Goals as goal

pub slice_bounds-first-count : goal.slice_bounds-first-count
slice_bounds-first-count c = search opens.size-inside

pub slice_bounds-first-start : goal.slice_bounds-first-start
slice_bounds-first-start c = search opens.size-inside

pub first-k-requires : goal.first-k-requires
first-k-requires c = search (roots.six-places, opens.modes)

pub returns-in-Err : goal.returns-in-Err
returns-in-Err c = let o = odd c.in-Err.is in let s = told-as c.in-Err.is in search (roots.keys-break, roots.objects-stand, o, s)

pub slice_bounds-values-count : goal.slice_bounds-values-count
slice_bounds-values-count c = search opens.size-inside

pub slice_bounds-values-start : goal.slice_bounds-values-start
slice_bounds-values-start c = search opens.size-inside

pub returns-in-None : goal.returns-in-None
returns-in-None c = search (roots.no-root, roots.nothing-stands)

pub returns-in-Ok : goal.returns-in-Ok
returns-in-Ok c = let s = sound c.in-Ok.is in search (roots.keys-pass, roots.objects-stand, s)
