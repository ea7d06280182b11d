-- `root::pass::value` meets its contract: a law for each branch.
use Rattle.walk.proofs.Opens as opens
use Rattle.root.proofs.Walks as walks
use Rattle.root.proofs.pass.value.Goals.{then-k-eq2+else-seen-eq0, else-k-eq2}
use Rattle.root.proofs.pass.value.Goals as goal

pub returns-then-seen-eq0 : goal.returns-then-seen-eq0
returns-then-seen-eq0 c = search (opens.whole-ends, walks.first-objects)

pub returns : goal.returns
returns c = search (opens.whole-ends, walks.other-value (λ a b. elim c.if-k-eq2.branch [ then-k-eq2+else-seen-eq0 w ↦ w.if-seen-eq0.false b | else-k-eq2 w ↦ w.if-k-eq2.false a ]))
