-- `apart::run_of_blocks` meets its contract. The loop's invariant: the bytes before i agree.
use native.Mathlib.Omega.{arith}
use Rattle.apart.specs.Positions.{block}
use Rattle.apart.proofs.Counts as counting
use Rattle.text.proofs.WordsDecide.{agree-none}
use Rattle.apart.proofs.run_of_blocks.Goals as goal

pub loop-i-init : goal.loop-i-init
loop-i-init c = record { most = omega arith; agree = agree-none _ _ }

pub of_block-requires : goal.of_block-requires
of_block-requires c = counting.both-from c.args.x.now c.args.y.now c.loop-i.i block c.requires (omega arith)

pub loop-i-preserved : goal.loop-i-preserved
loop-i-preserved c = record {
  most = omega arith;
  agree = counting.agree-few c.args.x.now c.args.y.now c.loop-i.i block c.requires (omega arith) c.loop-i.invariant.agree c.of_block.ensures.0 (omega arith);
}
