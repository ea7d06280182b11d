-- `emit::magic_at` meets its contract: the fixed bytes. Assumes nothing.
use Rattle.meaning.specs.Layouts.{magic}
use Rattle.emit.proofs.magic_at.Goals as goal

pub bytes_at-requires : goal.bytes_at-requires
unfolding magic
bytes_at-requires c = search

pub returns : goal.returns
unfolding magic
returns c = search
