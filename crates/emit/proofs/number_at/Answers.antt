-- `emit::number_at` meets its contract: a law for each return. Assumes nothing.
use Rattle.meaning.specs.Manifest.{number_bytes}
use borrow.Author.Rules.{rules}
use Rattle.emit.proofs.number_at.Goals as goal

pub head_at-requires : goal.head_at-requires
unfolding number_bytes
head_at-requires c = search rules

pub returns : goal.returns
unfolding number_bytes
returns c = search
