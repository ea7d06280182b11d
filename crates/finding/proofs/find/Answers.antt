-- `finding::find` meets its contract: the invariant says that the loop's own fold of the rest is the finding of all. Assumes nothing.
use mathlib.Core.Path.{refl, ◌∙◌}
use lib.Ieee.{nan_bits}
use Rattle.finding.proofs.Turn as turn
use borrow.Author.Rules.{rules}
use Rattle.finding.proofs.find.Goals as goal

pub returns-then-s-lt4 : goal.returns-then-s-lt4
returns-then-s-lt4 c = search turn.is-empty

pub float_from_bits-smallest : goal.float_from_bits-smallest
unfolding nan_bits
float_from_bits-smallest c = search rules

pub float_from_bits-largest : goal.float_from_bits-largest
unfolding nan_bits
float_from_bits-largest c = search rules

pub loop-four-init : goal.loop-four-init
loop-four-init c = (turn.ran-none c.if-s-lt4.false (cc), cc)

pub loop-four-preserved-then-nan : goal.loop-four-preserved-then-nan
loop-four-preserved-then-nan c =
    let s = c.in-Some.ensures.steps in
    let i = c.loop-four.invariant in
    (turn.past-nan i.0 _ _ s.1.0 (s.1.1 ∙ i.1) c.pattern-n.ensures.0 c.nan.ensures c.if-nan.true, s.0 ∙ i.1)

pub loop-four-preserved-then-within : goal.loop-four-preserved-then-within
loop-four-preserved-then-within c =
    let s = c.in-Some.ensures.steps in
    let i = c.loop-four.invariant in
    (turn.past-within i.0 _ _ s.1.0 (s.1.1 ∙ i.1) c.pattern-n.ensures.0 c.nan.ensures c.if-nan.false refl c.within.ensures c.if-within.true, s.0 ∙ i.1)

pub loop-four-preserved : goal.loop-four-preserved
loop-four-preserved c =
    let s = c.in-Some.ensures.steps in
    let i = c.loop-four.invariant in
    (turn.past-number i.0 _ _ s.1.0 (s.1.1 ∙ i.1) c.pattern-n.ensures.0 c.nan.ensures c.if-nan.false refl c.lesser-smallest.ensures c.greater-largest.ensures, s.0 ∙ i.1)

pub returns-then-some : goal.returns-then-some
returns-then-some c = turn.ran-span c.loop-four.invariant.0 (rw c.loop-four.invariant.1 at c.in-None.ensures.steps.1.0) c.if-some.true

pub returns : goal.returns
returns c = turn.ran-nans c.loop-four.invariant.0 (rw c.loop-four.invariant.1 at c.in-None.ensures.steps.1.0) c.if-some.false
