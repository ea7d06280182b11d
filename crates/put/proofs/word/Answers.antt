-- `put::word` meets its contract: the invariant says what is still to be written. Assumes nothing.
use Rattle.put.proofs.PiecesInTurn as writing
use Rattle.put.proofs.word.Goals as goal

pub loop-b-init : goal.loop-b-init
loop-b-init c = search writing.written_none

pub loop-b-preserved : goal.loop-b-preserved
loop-b-preserved c = search writing.byte-written

pub shape_of-out : goal.shape_of-out
shape_of-out c = search writing.bytes-as-long

pub returns : goal.returns
returns c = search writing.all-bytes
