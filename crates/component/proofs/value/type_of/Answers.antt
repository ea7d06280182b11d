-- `component::value::type_of` meets its contract: a law for each branch.
use Rattle.meaning.proofs.Lengths.{place-fits}
use Rattle.fields.proofs.Texts.{letters-in}
use Rattle.component.proofs.Values as values
use borrow.Author.Rules.{rules}
use Rattle.component.proofs.value.type_of.Goals as goal

pub overflow_add-e : goal.overflow_add-e
overflow_add-e c = search (place-fits, letters-in)

pub slice_bounds-utf8-end : goal.slice_bounds-utf8-end
slice_bounds-utf8-end c = search (rules, letters-in)

pub slice_bounds-type_fits-end : goal.slice_bounds-type_fits-end
slice_bounds-type_fits-end c = search (rules, letters-in)

pub returns-then-type_fits : goal.returns-then-type_fits
returns-then-type_fits c = search values.type-some

pub returns-then-utf8 : goal.returns-then-utf8
returns-then-utf8 c = search values.type-other

pub returns-in_default : goal.returns-in_default
returns-in_default c = search values.type-kind

pub returns : goal.returns
returns c = search values.type-text
