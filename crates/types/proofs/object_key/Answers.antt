-- `types::object_key` meets its contract: 1.0 is asked of the other one, 1.2.0's names are sought here. Assumes nothing.
use Rattle.types.specs.Row.{tagged, rows_of}
use Rattle.types.proofs.Named.{named}
use borrow.Author.Rules.{rules}
use Rattle.types.proofs.Codes as codes
use Rattle.types.proofs.object_key.Goals as goal

pub returns-then-layout-eq1 : goal.returns-then-layout-eq1
unfolding tagged rows_of
returns-then-layout-eq1 c = search rules

pub overflow_add-result : goal.overflow_add-result
unfolding tagged rows_of
overflow_add-result c = search codes.few-new-object

pub returns : goal.returns
unfolding tagged rows_of
returns c = search (codes.new-object, named)
