-- `object::place::tensor_of` meets its contract: a law for each branch.
use Rattle.object.proofs.Tensors as tensors
use Rattle.fields.proofs.Texts.{letters-in}
use Rattle.meaning.proofs.Lengths.{place-fits}
use borrow.Author.Rules.{rules}
use Rattle.object.proofs.place.tensor_of.Goals as goal

pub overflow_add-e : goal.overflow_add-e
overflow_add-e c = search (place-fits, letters-in)

pub slice_bounds-dtype_code-end : goal.slice_bounds-dtype_code-end
slice_bounds-dtype_code-end c = search (rules, letters-in)

pub returns-then-code-lt13 : goal.returns-then-code-lt13
returns-then-code-lt13 c = search tensors.tensor-some

pub returns-in_default : goal.returns-in_default
returns-in_default c = search tensors.tensor-kind

pub returns : goal.returns
returns c = search tensors.tensor-other
