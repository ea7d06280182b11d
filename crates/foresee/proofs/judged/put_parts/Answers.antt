-- `foresee::judged::put_parts` meets its contract.
use Prim.Native.Nat.{◌+◌}
use Rattle.meaning.specs.Columns.{component_width}
use Rattle.rows.proofs.EachRow.{place-on}
use Rattle.foresee.proofs.Parts as law
use Rattle.foresee.proofs.judged.put_parts.Goals as goal

pub loop-j-init : goal.loop-j-init
loop-j-init c = law.none-put c.requires.2

pub loop-j-preserved : goal.loop-j-preserved
loop-j-preserved c =
    place-on (λ at. law.Putting c.args.buffer.now c.args.rows.now c.args.n c.put_part.new.out at (c.loop-j.j + 1)) component_width c.loop-j.j
    (law.one-more-put c.loop-j.invariant c.requires.1 c.loop-j-test.true c.put_part.ensures)

pub returns : goal.returns
returns c = (c.loop-j.invariant.room, law.all-put c.loop-j.invariant c.loop-j-test.false)
