-- `types::any_component_key` meets its contract: the rows of the table are computed from the names, its digits from their places. Assumes nothing.
use Rattle.meaning.specs.Layouts.{old}
use Rattle.types.specs.Row.{tagged, rows_of}
use Rattle.types.proofs.Named.{named}
use Rattle.types.specs.Known.{place_of_name}
use Rattle.types.proofs.Codes as codes
use Rattle.types.proofs.any_component_key.Goals as goal

pub digit-requires : goal.digit-requires
unfolding old tagged rows_of
digit-requires c = search codes.few-component

pub returns-then-layout-eq1 : goal.returns-then-layout-eq1
unfolding old tagged rows_of place_of_name
returns-then-layout-eq1 c = search (codes.old-component, named)

pub returns : goal.returns
unfolding tagged rows_of
returns c = search (codes.new-component, named)
