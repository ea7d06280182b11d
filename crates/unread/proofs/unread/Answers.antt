-- `unread::unread` meets its contract: a law for each branch.
use Rattle.unread.proofs.Stopped as stopped
use Rattle.unread.proofs.unread.Goals as goal

pub returns-then-left-eq0 : goal.returns-then-left-eq0
returns-then-left-eq0 c = search stopped.at-the-end

pub returns : goal.returns
returns c = search stopped.at-a-head
