-- `stop::pass` meets its contract. Each turn of its loop passes one of the items that are held, or the item stops where that one does. Fewer levels are left for what is held.
use Rattle.stop.proofs.Held as items
use Rattle.numbers.proofs.PassedOn.{passed-on}
use Rattle.stop.proofs.+pass.Goals as goal

pub loop-due-init : goal.loop-due-init
loop-due-init t c = search items.begins

pub returns-then-s-at : goal.returns-then-s-at
returns-then-s-at t c = search items.missing

pub returns-then-s-end : goal.returns-then-s-end
returns-then-s-end t c = search items.break-stops

pub returns-then-s-at-2 : goal.returns-then-s-at-2
returns-then-s-at-2 t c = search items.break-passes

pub overflow_add-at : goal.overflow_add-at
overflow_add-at t c = search (items.next_fits, items.by-light)

pub loop-due-smaller-then-k-s : goal.loop-due-smaller-then-k-s
loop-due-smaller-then-k-s t c = search (items.fewer-left, items.by-light)

pub loop-due-preserved-then-k-s : goal.loop-due-preserved-then-k-s
loop-due-preserved-then-k-s t c = search (items.item-passes, items.by-light)

pub overflow_add-at-in-loop-due : goal.overflow_add-at-in-loop-due
overflow_add-at-in-loop-due t c = search (items.next_fits, items.by-pass, c.in_ok-next-in-Holds.was)

pub loop-due-smaller : goal.loop-due-smaller
loop-due-smaller t c = search (items.fewer-left, items.by-pass, c.in_ok-next-in-Holds.was)

pub loop-due-preserved : goal.loop-due-preserved
loop-due-preserved t c = search (items.item-passes, items.by-pass, c.in_ok-next-in-Holds.was)

pub returns-in_err-next-in-Holds : goal.returns-in_err-next-in-Holds
returns-in_err-next-in-Holds t c = let e = passed-on {r = c.from_residual.result} {e = c.in_err-next-in-Holds.field-0.0} c.from_residual.ensures in search (items.item-stops, c.in_err-next-in-Holds.was)

pub returns-in-Ended : goal.returns-in-Ended
returns-in-Ended t c = search items.ended

pub returns-after-loop-due : goal.returns-after-loop-due
returns-after-loop-due t c = search items.all-passed
