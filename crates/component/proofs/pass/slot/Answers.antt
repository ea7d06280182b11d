-- `component::pass::slot` meets its contract: a law for each branch.
use Rattle.meaning.proofs.Lengths.{place-fits}
use Rattle.fields.proofs.Texts.{letters-in}
use Rattle.component.proofs.Entries as entries
use borrow.Author.Rules.{rules}
use Rattle.component.proofs.pass.slot.Goals as goal

pub overflow_add-e : goal.overflow_add-e
overflow_add-e c = search (place-fits, letters-in)

pub slice_bounds-component_key-end : goal.slice_bounds-component_key-end
slice_bounds-component_key-end c = search (rules, letters-in)

pub returns-in_default : goal.returns-in_default
returns-in_default c = search (rules, entries.slot-odd)

pub returns : goal.returns
returns c = search (entries.slot-few, entries.slot-known)
