-- `fields::mark` meets its contract: a law for each branch.
use Rattle.fields.proofs.MarkedSlots as marking
use Rattle.fields.proofs.mark.Goals as goal

pub returns-then-known-k : goal.returns-then-known-k
returns-then-known-k c = marking.mark-late _ _ _ _ c.if-known-k.true

pub returns-then-p-k-eq0 : goal.returns-then-p-k-eq0
returns-then-p-k-eq0 c = marking.mark-first _ _ _ _ c.if-known-k.false c.if-p-k-eq0.true

pub returns : goal.returns
returns c = marking.mark-again _ _ _ _ c.if-known-k.false c.if-p-k-eq0.false
