-- `types::role_code` meets its contract: the rows of the table are computed from the names. Assumes nothing.
use Rattle.types.proofs.Named.{named}
use Rattle.types.specs.Row.{tagged, rows_of}
use Rattle.types.specs.Known as known
use Rattle.types.proofs.role_code.Goals as goal

pub returns : goal.returns
unfolding known.role_names tagged rows_of
returns c = search named
