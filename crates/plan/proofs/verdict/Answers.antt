-- `plan::verdict` meets its contract: the invariant says what is done and what is still to be.
use Rattle.plan.proofs.Turns as turns
use Rattle.plan.proofs.verdict.Goals as goal
use Rattle.plan.proofs.verdict.Goals.{then-plan-i-via-then-plan-i, then-plan-i-via-else-plan-i+then-not-follows}

pub returns-then-ceiling-gt-END_MOST : goal.returns-then-ceiling-gt-END_MOST
returns-then-ceiling-gt-END_MOST c = turns.at_row 0 (search turns.too-high) _ c.refused.ensures

pub loop-i-init : goal.loop-i-init
loop-i-init c = search turns.begin

pub returns-then-plan-i : goal.returns-then-plan-i
returns-then-plan-i c =
    elim c.then-plan-i.branch [
      | then-plan-i-via-then-plan-i w ↦ turns.at_row c.loop-i.i (search turns.too_short) _ c.refused-then-plan-i.ensures
      | then-plan-i-via-else-plan-i+then-not-follows w ↦ turns.at_row c.loop-i.i (turns.breaks c.loop-i.invariant c.loop-i-test.true w.if-plan-i.false _ w.follows.ensures w.if-not-follows.true) _ c.refused-then-plan-i.ensures
    ]

pub overflow_add-plan : goal.overflow_add-plan
overflow_add-plan c = turns.sum_fits c.loop-i.invariant c.loop-i-test.true c.if-plan-i.false _ c.follows.ensures c.if-not-follows.false

pub loop-i-preserved : goal.loop-i-preserved
loop-i-preserved c = turns.turn c.loop-i.invariant c.loop-i-test.true c.if-plan-i.false _ c.follows.ensures c.if-not-follows.false c.max-end.ensures

pub returns-then-n-plan : goal.returns-then-n-plan
returns-then-n-plan c = turns.at_row c.args.n (search turns.left_over) _ c.refused-then-n-plan.ensures

pub returns : goal.returns
returns c = search (turns.accepted, turns.ends_last)
