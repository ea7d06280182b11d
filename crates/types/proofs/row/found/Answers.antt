-- `types::row::found` meets its contract: so many rows are passed, and what is found in the rest is found in the whole. Assumes nothing.
use Rattle.types.proofs.Named as laws
use Rattle.types.proofs.row.found.Goals as goal

pub loop-at-init : goal.loop-at-init
loop-at-init c = search laws.sought-none

pub returns-then-row_is : goal.returns-then-row_is
returns-then-row_is c = search laws.found_here

pub loop-at-preserved : goal.loop-at-preserved
loop-at-preserved c = search laws.found-later

pub returns : goal.returns
returns c = search laws.found-last
