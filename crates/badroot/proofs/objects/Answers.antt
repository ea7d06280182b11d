-- `badroot::objects` meets its contract.
use Rattle.badroot.proofs.Roots as roots
use Rattle.walk.proofs.Opens as opens
use Rattle.badroot.proofs.objects.Goals as goal

pub slice_bounds-first-count : goal.slice_bounds-first-count
slice_bounds-first-count c = search opens.size-inside

pub slice_bounds-first-start : goal.slice_bounds-first-start
slice_bounds-first-start c = search opens.size-inside

pub first-requires : goal.first-requires
first-requires c = search (roots.six-places, opens.modes)

pub returns-in-None : goal.returns-in-None
returns-in-None c = search roots.nothing-stands

pub returns-in-Some : goal.returns-in-Some
returns-in-Some c = search roots.objects-stand
