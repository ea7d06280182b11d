-- `component::value::raw_of` meets its contract: a law for each branch.
use Rattle.meaning.proofs.Lengths.{place-fits}
use Rattle.fields.proofs.Texts.{letters-in}
use Rattle.component.proofs.Values as values
use borrow.Author.Rules.{rules}
use Rattle.component.proofs.value.raw_of.Goals as goal

pub overflow_add-e : goal.overflow_add-e
overflow_add-e c = search (place-fits, letters-in)

pub slice_bounds-is_raw-end : goal.slice_bounds-is_raw-end
slice_bounds-is_raw-end c = search (rules, letters-in)

pub returns-then-is_raw : goal.returns-then-is_raw
returns-then-is_raw c = search values.raw-some

pub returns-in_default : goal.returns-in_default
returns-in_default c = search values.raw-kind

pub returns : goal.returns
returns c = search values.raw-other
