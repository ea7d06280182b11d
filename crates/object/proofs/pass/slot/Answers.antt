-- `object::pass::slot` meets its contract: a law for each branch.
use Rattle.meaning.proofs.Lengths.{place-fits}
use Rattle.fields.proofs.Texts.{letters-in}
use Rattle.object.proofs.EntryLoop as looping
use borrow.Author.Rules.{rules}
use Rattle.object.proofs.pass.slot.Goals as goal

pub overflow_add-e : goal.overflow_add-e
overflow_add-e c = search (place-fits, letters-in)

pub slice_bounds-object_key-end : goal.slice_bounds-object_key-end
slice_bounds-object_key-end c = search (rules, letters-in)

pub returns-in_default : goal.returns-in_default
returns-in_default c = search (rules, looping.slot-odd)

pub returns : goal.returns
returns c = search (looping.slot-few, looping.slot-known)
