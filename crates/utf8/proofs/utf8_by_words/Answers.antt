-- `utf8::utf8_by_words` meets its contract. The loop's invariant: up to i all is whole characters; the last word overlaps. Assumes nothing.
use Prim.Native.Nat.{◌-◌}
use native.Mathlib.Omega.{arith}
use Rattle.utf8.proofs.AsciiWords as ascii
use Rattle.utf8.proofs.utf8_by_words.Goals as goal

pub loop-i-init : goal.loop-i-init
loop-i-init c = search ascii.whole-of-all

pub returns-then-k-eq0 : goal.returns-then-k-eq0
returns-then-k-eq0 c = search ascii.rest-wrong

pub overflow_add-i : goal.overflow_add-i
overflow_add-i c = omega (arith, ascii.rest-inside c.loop-i.invariant c.eight_on-k.ensures)

pub loop-i-smaller-then-be8-ne0 : goal.loop-i-smaller-then-be8-ne0
loop-i-smaller-then-be8-ne0 c = omega (arith, ascii.rest-inside c.loop-i.invariant c.eight_on-k.ensures)

pub loop-i-preserved-then-be8-ne0 : goal.loop-i-preserved-then-be8-ne0
loop-i-preserved-then-be8-ne0 c = let l = c.loop-i in ascii.rest-whole l.invariant c.eight_on-k.ensures c.if-k-eq0.false

pub loop-i-preserved : goal.loop-i-preserved
loop-i-preserved c = let l = c.loop-i in search (ascii.word_low l.invariant)

pub returns-then-be8-ne0-2 : goal.returns-then-be8-ne0-2
returns-then-be8-ne0-2 c = search ascii.rest-decides

pub returns : goal.returns
returns c = search ascii.last-word-low
