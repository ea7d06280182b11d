-- `sharing::clear` meets its contract: zeros in their place. Assumes nothing.
use Rattle.std.proofs.Common.{rules}
use Rattle.sharing.proofs.Laid as laid
use Rattle.sharing.proofs.clear.Goals as goal

pub returns : goal.returns
returns c = laid.lent-zeros c.args.from c.args.count c.args.shared.now _ c.requires (search rules)
