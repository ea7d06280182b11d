-- `unread::framed` meets its contract: a law for each branch.
use Rattle.unread.proofs.OfFrame as frames
use Rattle.unread.proofs.framed.Goals as goal

pub returns-then-n-eq-SHORT : goal.returns-then-n-eq-SHORT
returns-then-n-eq-SHORT c = search frames.the-file

pub returns-then-n-eq-HEADER : goal.returns-then-n-eq-HEADER
returns-then-n-eq-HEADER c = search frames.the-header

pub returns-then-n-eq-FOOTER : goal.returns-then-n-eq-FOOTER
returns-then-n-eq-FOOTER c = search frames.the-footer

pub returns : goal.returns
returns c = search frames.the_size
