-- `finding::nan` meets its contract: the kit's law of NaN patterns. Assumes nothing.
use mathlib.Core.Path.{sym}
use lib.Ieee.{binary32}
use lib.Ieee.Bits.{nan_bits_above}
use Rattle.finding.proofs.nan.Goals as goal

pub returns : goal.returns
returns c = sym (nan_bits_above binary32 c.args.n)
