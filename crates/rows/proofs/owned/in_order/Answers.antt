-- `rows::owned::in_order` meets its contract: a law for each way on and out of the loop.
use Rattle.rows.proofs.Owners as law
use Rattle.rows.proofs.owned.in_order.Goals as goal
use Rattle.rows.proofs.owned.in_order.Goals.{then-due-count-via-then-due-count, then-due-count-via-else-due-count+then-not-by}

pub returns-then-due-count : goal.returns-then-due-count
returns-then-due-count c =
    elim c.then-due-count.branch [
      | then-due-count-via-then-due-count w ↦ search law.too-few-due
      | then-due-count-via-else-due-count+then-not-by w ↦
          law.others-there c.loop-i.invariant c.loop-i-test.true w.if-due-count.false w.by.ensures w.if-not-by.true
    ]

pub loop-i-preserved : goal.loop-i-preserved
loop-i-preserved c = law.next-owner c.loop-i.invariant c.loop-i-test.true c.if-due-count.false c.by.ensures c.if-not-by.false

pub returns : goal.returns
returns c = search law.order-ends
