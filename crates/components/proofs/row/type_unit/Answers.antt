use Rattle.meaning.proofs.Lengths.{place-fits}
use Rattle.fields.proofs.Texts.{letters-in}
use Rattle.components.proofs.Units as units
use borrow.Author.Rules.{rules}
use Rattle.components.proofs.row.type_unit.Goals as goal

pub overflow_add-e : goal.overflow_add-e
overflow_add-e c = search (place-fits, letters-in)

pub slice_bounds-unit_of-end : goal.slice_bounds-unit_of-end
slice_bounds-unit_of-end c = search (rules, letters-in)

pub returns-in_default : goal.returns-in_default
returns-in_default c = search units.unit-kind

pub returns : goal.returns
returns c = search units.unit-word
