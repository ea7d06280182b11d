-- `panel::lines::objects_of` meets its contract: the invariant says what is still to be written. Assumes nothing.
use native.Mathlib.Omega.{arith}
use Rattle.panel.proofs.LinesInTurn as following
use Rattle.panel.proofs.lines.objects_of.Goals as goal

pub blobs-past-requires : goal.blobs-past-requires
blobs-past-requires c = search following.its-blobs-lie

pub overflow_mul-from : goal.overflow_mul-from
overflow_mul-from c = omega (arith, following.its-blobs-lie c.loop-i.invariant c.loop-i-test.true)

pub overflow_add-from : goal.overflow_add-from
overflow_add-from c = omega (arith, following.its-blobs-lie c.loop-i.invariant c.loop-i-test.true)

pub loop-i-preserved : goal.loop-i-preserved
loop-i-preserved c = following.one-more-object c.loop-i.invariant c.loop-i-test.true c.object-next.ensures c.blobs-past.ensures

pub shape_of-out : goal.shape_of-out
shape_of-out c = search following.objects-length

pub returns : goal.returns
returns c = search following.all-objects
