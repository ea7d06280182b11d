-- `names::named::name_of` meets its contract: the part that it answers is the name. Assumes nothing.
use Rattle.std.proofs.Common.{rules}
use Rattle.names.proofs.NamedParts as parts
use Rattle.names.proofs.named.name_of.Goals as goal

pub returns : goal.returns
returns c = parts.name-part c.args.m.now c.args.left.now c.args.size.now c.args.i {l = c.unwrap_or.result} {n = c.unwrap_or-2.result} (search rules) c.saturating_sub-from.ensures (search rules) c.min.ensures
