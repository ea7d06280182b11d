-- `foresee::named::note` meets its contract.
use Prim.Native.Nat.{◌+◌}
use Rattle.rows.proofs.EachRow.{place-on}
use Rattle.foresee.proofs.NamesNoted as law
use mathlib.Core.Bool.{not}
use mathlib.Core.Path.{ap}
use Rattle.foresee.proofs.named.note.Goals as goal

pub loop-i-init : goal.loop-i-init
loop-i-init c = law.none-noted c.requires.2

pub returns-then-not-utf8 : goal.returns-then-not-utf8
returns-then-not-utf8 c = (c.loop-i.invariant.same-room, law.odd-name c.loop-i.invariant c.loop-i-test.true c.part.ensures c.utf8-2.ensures (ap not c.if-not-utf8.true))

pub loop-i-preserved : goal.loop-i-preserved
loop-i-preserved c =
    place-on (λ at. law.Noting c.args.buffer.now c.args.rows.now c.args.width c.args.n c.args.left.now c.put.new.a c.put-in-loop-i.new.a at (c.loop-i.i + 1)) c.args.width c.loop-i.i
    (law.one-more-noted c.loop-i.invariant c.loop-i-test.true c.part.ensures c.utf8-2.ensures (ap not c.if-not-utf8.false) c.saturating_sub.ensures c.put.ensures c.put-in-loop-i.ensures)

pub returns : goal.returns
returns c = (c.loop-i.invariant.same-room, law.all_noted c.loop-i.invariant c.loop-i-test.false)
