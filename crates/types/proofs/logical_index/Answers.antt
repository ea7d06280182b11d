-- `types::logical_index` meets its contract: the rows of the table are computed from the names. Assumes nothing.
use Rattle.types.proofs.Named.{named}
use Rattle.types.specs.Row.{tagged, rows_of}
use Rattle.meaning.specs.Types.{logicals}
use Rattle.types.proofs.logical_index.Goals as goal

pub returns : goal.returns
unfolding logicals tagged rows_of
returns c = search named
