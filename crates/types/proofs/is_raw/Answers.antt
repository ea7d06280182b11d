-- `types::is_raw` meets its contract: a table of one name. Assumes nothing.
use Rattle.types.proofs.Named.{named}
use Rattle.types.specs.Row.{tagged, rows_of}
use Rattle.types.proofs.Codes as codes
use Rattle.types.proofs.is_raw.Goals as goal

pub returns : goal.returns
unfolding tagged rows_of
returns c = search (codes.one_name, named)
