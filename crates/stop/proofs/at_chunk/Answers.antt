-- `stop::at_chunk` meets its contract: a law for each way out of the loop.
use Rattle.stop.proofs.Turns as turns
use Rattle.stop.proofs.at_chunk.Goals as goal

pub loop-at-init : goal.loop-at-init
loop-at-init c = search turns.chunks-begin

pub returns-then-major_of-major : goal.returns-then-major_of-major
returns-then-major_of-major c = search turns.other-type

pub returns-then-low_of-ge28 : goal.returns-then-low_of-ge28
returns-then-low_of-ge28 c = search turns.odd-head

pub returns-then-s-at : goal.returns-then-s-at
returns-then-s-at c = search turns.cut-chunk

pub loop-at-smaller : goal.loop-at-smaller
loop-at-smaller c = search turns.fewer-left

pub loop-at-preserved : goal.loop-at-preserved
loop-at-preserved c = search turns.next-chunk

pub returns : goal.returns
returns c = search turns.chunks-missing
