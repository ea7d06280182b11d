-- `component::value::text_of` meets its contract: a law for each branch.
use Rattle.meaning.proofs.Lengths.{place-fits}
use Rattle.fields.proofs.Texts.{letters-in}
use Rattle.component.proofs.Values as values
use borrow.Author.Rules.{rules}
use Rattle.component.proofs.value.text_of.Goals as goal

pub overflow_add-e : goal.overflow_add-e
overflow_add-e c = search (place-fits, letters-in)

pub slice_bounds-utf8-end : goal.slice_bounds-utf8-end
slice_bounds-utf8-end c = search (rules, letters-in)

pub returns-then-utf8 : goal.returns-then-utf8
returns-then-utf8 c = search values.text-some

pub returns-in_default : goal.returns-in_default
returns-in_default c = search values.text-kind

pub returns : goal.returns
returns c = search values.text-other
