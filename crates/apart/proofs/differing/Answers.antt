-- `apart::differing` meets its contract. The loop's invariant: those before i are counted.
use native.Mathlib.Omega.{arith}
use Rattle.apart.specs.Positions.{block}
use Rattle.apart.proofs.Counts as counting
use Rattle.apart.proofs.differing.Goals as goal

pub loop-i-init : goal.loop-i-init
loop-i-init c = search counting.count-begins

pub loop-i-preserved-then-n-i-lt-BLOCK : goal.loop-i-preserved-then-n-i-lt-BLOCK
loop-i-preserved-then-n-i-lt-BLOCK c = search counting.count-one

pub of_block-requires : goal.of_block-requires
of_block-requires c = counting.both-from c.args.x.now c.args.y.now c.loop-i.i block c.requires.0 (omega arith)

pub loop-i-preserved : goal.loop-i-preserved
loop-i-preserved c = counting.count-few c.args.x.now c.args.y.now block c.loop-i.invariant (omega arith) c.of_block.ensures

pub returns : goal.returns
returns c = counting.counted-all c.args.x.now c.args.y.now c.loop-i.invariant (omega arith)
