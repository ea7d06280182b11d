-- `emit::initial` meets its contract: the two parts have no bit in common. Assumes nothing.
use lib.Bits.{or_shifted}
use lib.Pow.{shl_exact}
use native.Mathlib.Omega.{arith}
use Rattle.emit.proofs.initial.Goals as goal

pub returns : goal.returns
returns c = rw (shl_exact 3 5 8 c.requires.0 (omega arith)) (or_shifted c.args.major 5 c.args.low c.requires.1)
