-- `badcomponent::component` meets its contract: a law for each branch.
use Rattle.walk.proofs.Opens as opens
use Rattle.badcomponent.proofs.Whole as whole
use Rattle.numbers.proofs.PassedOn.{passed-on}
use Rattle.spot.proofs.Told.{odd, sound, the-same}
use Rattle.badcomponent.proofs.component.Goals as goal

pub slice_bounds-first-count : goal.slice_bounds-first-count
slice_bounds-first-count c = search opens.size-inside

pub slice_bounds-first-start : goal.slice_bounds-first-start
slice_bounds-first-start c = search opens.size-inside

pub first-requires : goal.first-requires
first-requires c = search (whole.ten-places, opens.modes)

pub returns-in_err-first-in-Some : goal.returns-in_err-first-in-Some
returns-in_err-first-in-Some c =
    let was = c.in_err-first-in-Some.was in
    let e = passed-on {r = c.from_residual.result} {e = c.in_err-first-in-Some.field-0.0} c.from_residual.ensures in
    let o = odd was in
    let s = the-same was e in
    search (whole.stops, o, s)

pub returns-then-lacks : goal.returns-then-lacks
returns-then-lacks c = let s = sound c.in_ok-first-in-Some.was in search (whole.lacks-one, s)

pub slice_bounds-values-count : goal.slice_bounds-values-count
slice_bounds-values-count c = search opens.size-inside

pub slice_bounds-values-start : goal.slice_bounds-values-start
slice_bounds-values-start c = search opens.size-inside

pub returns-in-None : goal.returns-in-None
returns-in-None c = search whole.not-map

pub returns-else-lacks : goal.returns-else-lacks
returns-else-lacks c = let s = sound c.in_ok-first-in-Some.was in search (whole.has_all, s)
