-- `stop::at_head` meets its contract: a law for each answer.
use Rattle.stop.proofs.Turns as turns
use Rattle.stop.proofs.at_head.Goals as goal

pub returns-then-s-eq0 : goal.returns-then-s-eq0
returns-then-s-eq0 c = search turns.no_bytes

pub returns-then-low_of-ge28 : goal.returns-then-low_of-ge28
returns-then-low_of-ge28 c = search turns.at_first

pub returns : goal.returns
returns c = search turns.cut_off
