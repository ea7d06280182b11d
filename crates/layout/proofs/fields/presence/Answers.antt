-- `layout::fields::presence` meets its contract.
use borrow.Author.Rules.{rules}
use Rattle.layout.specs.Pieces.{presence}
use Rattle.layout.proofs.fields.presence.Goals as goal

pub returns : goal.returns
unfolding presence
returns c = search rules
