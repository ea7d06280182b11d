-- `panel::lines::blobs` meets its contract: the invariant says what is still to be written. Assumes nothing.
use Rattle.panel.proofs.LinesInTurn as following
use Rattle.panel.proofs.lines.blobs.Goals as goal

pub loop-i-preserved : goal.loop-i-preserved
loop-i-preserved c = search following.one-more-blob

pub shape_of-out : goal.shape_of-out
shape_of-out c = search following.blobs-length

pub returns : goal.returns
returns c = search following.all-blobs
