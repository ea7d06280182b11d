-- `badcomponent::length_at` meets its contract: a law for each branch.
use Rattle.walk.proofs.Opens as opens
use Rattle.badcomponent.proofs.Whole as whole
use Rattle.badcomponent.proofs.length_at.Goals as goal

pub slice_bounds-first-count : goal.slice_bounds-first-count
slice_bounds-first-count c = search opens.size-inside

pub slice_bounds-first-start : goal.slice_bounds-first-start
slice_bounds-first-start c = search opens.size-inside

pub first-requires : goal.first-requires
first-requires c = search (whole.ten-places, opens.modes)

pub returns-in-None : goal.returns-in-None
returns-in-None c = search whole.no_length

pub returns-in-Some : goal.returns-in-Some
returns-in-Some c = search whole.length-is
