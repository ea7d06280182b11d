-- `table::stored::role` meets its contract: a law for each branch.
use Rattle.meaning.proofs.Lengths.{place-fits}
use Rattle.fields.proofs.Texts.{letters-in}
use Rattle.table.proofs.Roles as rows
use borrow.Author.Rules.{rules}
use Rattle.table.proofs.stored.role.Goals as goal

pub overflow_add-e : goal.overflow_add-e
overflow_add-e c = search (place-fits, letters-in)

pub slice_bounds-role_code-end : goal.slice_bounds-role_code-end
slice_bounds-role_code-end c = search (rules, letters-in)

pub returns-in_default : goal.returns-in_default
returns-in_default c = search rows.role-odd

pub returns : goal.returns
returns c = search rows.role-named
