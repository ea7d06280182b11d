-- `text::utf::utf8_by_halves` meets its contract: two words that overlap hold every byte. Assumes nothing.
use Prim.Native.Nat.{◌-◌}
use Rattle.utf8.proofs.AsciiWords as ascii
use Rattle.utf8.proofs.utf8_by_halves.Goals as goal

pub returns-then-be4-ne0 : goal.returns-then-be4-ne0
returns-then-be4-ne0 c = search ascii.all-decides

pub returns-then-be4-ne0-2 : goal.returns-then-be4-ne0-2
returns-then-be4-ne0-2 c = search ascii.all-decides

pub returns : goal.returns
returns c = search ascii.halves-low
