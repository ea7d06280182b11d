-- `reader::into::fill` meets its contract: a law for each branch.
use native.Mathlib.Omega.{arith}
use Rattle.reader.proofs.Answers as answers
use mathlib.Core.Path.{ap}
use mathlib.Core.Bool.{not}
use Rattle.reader.proofs.into.fill.Goals as goal

pub returns-then-not-fits : goal.returns-then-not-fits
returns-then-not-fits c = search answers.filled-no-room

pub before_rows-first-requires : goal.before_rows-first-requires
before_rows-first-requires c = search answers.room-enough

pub overflow_mul-objects : goal.overflow_mul-objects
overflow_mul-objects c = answers.object-rows-fit _ _ _ (ap not c.if-not-fits.false) c.fits.ensures (omega (arith, c.type_inv))

pub offset_bounds-t-first : goal.offset_bounds-t-first
offset_bounds-t-first c = search answers.before-rows-fit

pub slice_bounds-lay-count-in-Ok : goal.slice_bounds-lay-count-in-Ok
slice_bounds-lay-count-in-Ok c = answers.before-rows-inside _ _ _ c.before_rows-first.ensures

pub slice_bounds-lay-start-in-Ok : goal.slice_bounds-lay-start-in-Ok
slice_bounds-lay-start-in-Ok c = answers.before-rows-inside _ _ _ c.before_rows-first.ensures

pub returns-in-Err : goal.returns-in-Err
returns-in-Err c = search answers.filled-not

pub returns-else-not-fits : goal.returns-else-not-fits
returns-else-not-fits c = let a = c.args in answers.filled-so a.layout a.last a.start a.m.now a.t.now
    _ c.manifest.ensures _ c.in-Ok.is _ c.fits.ensures c.requires (ap not c.if-not-fits.false)
    _ c.before_rows-first.ensures _ c.place_of-place.ensures _ c.lay.ensures _ c.attributes-a.ensures
