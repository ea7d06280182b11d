-- `utf8::low_at_first` meets its contract: four words without the highest bits. Assumes nothing.
use Rattle.utf8.proofs.AsciiWords as ascii
use Rattle.utf8.proofs.low_at_first.Goals as goal

pub returns-then-be8-ne0 : goal.returns-then-be8-ne0
returns-then-be8-ne0 c = search ascii.not-said

pub returns-then-be8-ne0-2 : goal.returns-then-be8-ne0-2
returns-then-be8-ne0-2 c = search ascii.not-said

pub returns-then-be8-ne0-3 : goal.returns-then-be8-ne0-3
returns-then-be8-ne0-3 c = search ascii.not-said

pub returns : goal.returns
returns c = search ascii.four_low fits 10000
