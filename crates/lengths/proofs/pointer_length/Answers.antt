-- `lengths::pointer_length` meets its contract: 2^64 - 1 rows by themselves. Assumes nothing.
use Rattle.lengths.proofs.Exact as laws
use Rattle.lengths.proofs.pointer_length.Goals as goal

pub returns-then-rows-eq-MOST : goal.returns-then-rows-eq-MOST
returns-then-rows-eq-MOST c = search laws.pointer-over
