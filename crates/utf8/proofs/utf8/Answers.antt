-- `text::utf::utf8` meets its contract: by bytes, by two words of four or by words of eight. Assumes nothing.
use Rattle.utf8.proofs.AsciiWords as ascii
use Rattle.utf8.proofs.utf8.Goals as goal

pub returns-then-t-lt4 : goal.returns-then-t-lt4
returns-then-t-lt4 c = search ascii.all-decides

pub returns-then-t-lt8 : goal.returns-then-t-lt8
returns-then-t-lt8 c = search ascii.all-decides

pub returns : goal.returns
returns c = search ascii.all-decides
