-- `text::frame::little` meets its contract. Assumes nothing.
use Rattle.std.proofs.Common.{rules}
use Rattle.text.proofs.LittleEndian as bytes
use Rattle.text.proofs.frame.little.Goals as goal

pub returns : goal.returns
returns c = bytes.little-eight c.args.part.now c.requires (search rules)
