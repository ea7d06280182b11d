-- `lengths::place` meets its contract: the tests in order; past 2^64 - 1 the sum is over every start. Assumes nothing.
use Rattle.lengths.proofs.Placed as laws
use Rattle.lengths.proofs.place.Goals as goal

pub returns-then-offset-ne0 : goal.returns-then-offset-ne0
returns-then-offset-ne0 c = search laws.odd

pub returns-then-offset-lt64 : goal.returns-then-offset-lt64
returns-then-offset-lt64 c = search laws.low

pub returns-then-offset-length : goal.returns-then-offset-length
returns-then-offset-length c = search laws.past_all

pub returns-then-start-offset : goal.returns-then-start-offset
returns-then-start-offset c = search laws.past

pub returns : goal.returns
returns c = search laws.inside
