-- `apart::of_block` meets its contract. The loop's invariant: those before i are counted.
use native.Mathlib.Omega.{arith}
use Rattle.apart.proofs.Counts as counting
use Rattle.text.proofs.WordsDecide.{agree-none}
use Rattle.apart.proofs.of_block.Goals as goal

pub loop-i-init : goal.loop-i-init
loop-i-init c = counting.count-begins c.args.x.now c.args.y.now c.requires (omega arith) (agree-none _ _)

pub loop-i-preserved : goal.loop-i-preserved
loop-i-preserved c = search counting.count-one

pub returns : goal.returns
returns c = counting.counted-all c.args.x.now c.args.y.now c.loop-i.invariant (omega arith)
