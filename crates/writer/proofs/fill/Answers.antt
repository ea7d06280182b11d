-- `writer::fill` meets its contract: a law for each branch.
use Rattle.writer.proofs.RowsThatFit as filling
use Rattle.writer.proofs.fill.Goals as goal

pub returns-then-out-sized : goal.returns-then-out-sized
returns-then-out-sized c = search filling.fill-no-room

pub file-n-requires : goal.file-n-requires
file-n-requires c = record { size_value = c.requires.sound; size_bound = c.requires.turns; size_in_bounds = search filling.there-is-room }

pub returns-in-Err : goal.returns-in-Err
returns-in-Err c = search filling.fill-refused

pub returns : goal.returns
returns c = search filling.fill-whole
