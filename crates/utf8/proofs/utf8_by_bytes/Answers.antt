-- `text::utf::utf8_by_bytes` meets its contract. The loop's invariant: what is left to say from i on, given the three numbers. Assumes nothing.
use Prim.Native.Nat.{◌-◌}
use Rattle.utf8.proofs.Utf8Steps as steps
use Rattle.utf8.proofs.utf8_by_bytes.Goals as goal

pub loop-i-init : goal.loop-i-init
loop-i-init c = search steps.passed_none

pub loop-i-preserved-then-b-lt128 : goal.loop-i-preserved-then-b-lt128
loop-i-preserved-then-b-lt128 c = search steps.pass-low

pub returns-then-l-eq4 : goal.returns-then-l-eq4
returns-then-l-eq4 c = search steps.none-begins

pub loop-i-preserved-then-need-eq0 : goal.loop-i-preserved-then-need-eq0
loop-i-preserved-then-need-eq0 c = search steps.one-begins

pub returns-then-b-low : goal.returns-then-b-low
returns-then-b-low c = search steps.too-low

pub returns-then-high-b : goal.returns-then-high-b
returns-then-high-b c = search steps.too-high

pub loop-i-preserved : goal.loop-i-preserved
loop-i-preserved c = let l = c.loop-i in search (steps.pass-next l.invariant)

pub returns : goal.returns
returns c = search steps.passed-all
