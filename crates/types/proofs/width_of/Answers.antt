-- `types::width_of` meets its contract: the digits are computed from the storages' widths. Assumes nothing.
use Rattle.meaning.specs.Types.{storages, storage_of, width_of}
use Rattle.types.proofs.Codes as codes
use Rattle.types.proofs.width_of.Goals as goal

pub returns-then-code-lt13 : goal.returns-then-code-lt13
unfolding storages storage_of width_of
returns-then-code-lt13 c = search codes.width-by-digit

pub returns : goal.returns
returns c = search codes.width-none
