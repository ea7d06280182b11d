use lib.Bits.{and_mask}
use Rattle.cbor.proofs.low_of.Goals as goal

pub returns : goal.returns
returns c = and_mask c.args.b 5
