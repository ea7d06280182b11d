-- `object::place::format_of` meets its contract: a law for each branch.
use Rattle.object.proofs.Places as places
use Rattle.fields.proofs.Texts.{letters-in}
use Rattle.meaning.proofs.Lengths.{place-fits}
use borrow.Author.Rules.{rules}
use Rattle.object.proofs.place.format_of.Goals as goal

pub overflow_add-e : goal.overflow_add-e
overflow_add-e c = search (place-fits, letters-in)

pub slice_bounds-format_code-end : goal.slice_bounds-format_code-end
slice_bounds-format_code-end c = search (rules, letters-in)

pub slice_bounds-legible-end : goal.slice_bounds-legible-end
slice_bounds-legible-end c = search (rules, letters-in)

pub returns-then-legible : goal.returns-then-legible
returns-then-legible c = search places.format-some

pub returns-in_default : goal.returns-in_default
returns-in_default c = search places.format-kind

pub returns : goal.returns
returns c = search places.format-other
