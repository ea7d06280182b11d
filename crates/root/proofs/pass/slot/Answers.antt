-- `root::pass::slot` meets its contract: a law for each branch.
use Rattle.fields.proofs.Texts.{letters-in}
use Rattle.meaning.proofs.Lengths.{place-fits}
use Rattle.root.proofs.Walks as walks
use borrow.Author.Rules.{rules}
use Rattle.root.proofs.pass.slot.Goals as goal

pub overflow_add-e : goal.overflow_add-e
overflow_add-e c = search (place-fits, letters-in)

pub slice_bounds-root_key-end : goal.slice_bounds-root_key-end
slice_bounds-root_key-end c = search (rules, letters-in)

pub returns-in_default : goal.returns-in_default
returns-in_default c = search (rules, walks.slot-odd)

pub returns : goal.returns
returns c = search (walks.slot-few, walks.slot-known)
