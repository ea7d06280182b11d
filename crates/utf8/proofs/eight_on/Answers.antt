-- `text::utf::eight_on` meets its contract. The loop's invariant: up to i all is whole characters. Assumes nothing.
use Prim.Native.Nat.{◌-◌}
use native.Mathlib.Omega.{arith}
use Rattle.utf8.proofs.AsciiWords as ascii
use Rattle.utf8.proofs.Utf8Steps as steps
use Rattle.utf8.proofs.eight_on.Goals as goal

pub loop-i-init : goal.loop-i-init
loop-i-init c = search steps.passed_none

pub loop-i-preserved-then-t-i-lt128 : goal.loop-i-preserved-then-t-i-lt128
loop-i-preserved-then-t-i-lt128 c = search ascii.pass-first-low

pub returns-then-k-eq0 : goal.returns-then-k-eq0
returns-then-k-eq0 c = search ascii.never-ends-here

pub overflow_add-i-in-loop-i : goal.overflow_add-i-in-loop-i
overflow_add-i-in-loop-i c = omega (arith, ascii.rest-inside c.loop-i.invariant c.char_end-k.ensures)

pub loop-i-preserved : goal.loop-i-preserved
loop-i-preserved c = search ascii.rest-whole

pub returns : goal.returns
returns c = search ascii.eight-end
