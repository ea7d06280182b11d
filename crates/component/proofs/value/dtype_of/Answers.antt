-- `component::value::dtype_of` meets its contract: a law for each branch.
use Rattle.meaning.proofs.Lengths.{place-fits}
use Rattle.fields.proofs.Texts.{letters-in}
use Rattle.component.proofs.Values as values
use borrow.Author.Rules.{rules}
use Rattle.component.proofs.value.dtype_of.Goals as goal

pub overflow_add-e : goal.overflow_add-e
overflow_add-e c = search (place-fits, letters-in)

pub slice_bounds-dtype_code-end : goal.slice_bounds-dtype_code-end
slice_bounds-dtype_code-end c = search (rules, letters-in)

pub returns-then-code-lt13 : goal.returns-then-code-lt13
returns-then-code-lt13 c = search values.dtype-some

pub returns-in_default : goal.returns-in_default
returns-in_default c = search values.dtype-kind

pub returns : goal.returns
returns c = search values.dtype-other
