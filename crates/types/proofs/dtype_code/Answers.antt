-- `types::dtype_code` meets its contract: the rows of the table are computed from the names. Assumes nothing.
use Rattle.meaning.specs.Layouts.{old}
use Rattle.meaning.specs.Types.{storages}
use Rattle.types.specs.Row.{tagged, rows_of}
use Rattle.types.proofs.Named.{named}
use Rattle.types.proofs.Codes as codes
use Rattle.types.proofs.dtype_code.Goals as goal

pub returns-then-layout-eq1 : goal.returns-then-layout-eq1
unfolding old tagged rows_of
returns-then-layout-eq1 c = search (codes.old-dtype, named)

pub returns : goal.returns
unfolding storages tagged rows_of
returns c = search (codes.new-dtype, named)
